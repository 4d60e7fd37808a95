-- What several lists of rows show at a raw key.
use Rattle.std.specs.Prelude.{◌≡◌, ℕ, List, Option, IfSome}
use Rattle.kv_base.specs.Map.{Bytes}
use Rattle.kv_base.specs.declared.row.Row.{Row}
use Rattle.row_model.specs.Rows.{seen_at}
use Rattle.view_read.specs.Sources.{joined_rows}

-- where all rows are told, this is the one that shows
abbrev pub ShowsInAll : List (Option (List Row)) → ℕ → Bytes → Option Row → Type 0
ShowsInAll lists s raw seen = IfSome (joined_rows lists) (λ rows. seen ≡ seen_at rows s raw)
