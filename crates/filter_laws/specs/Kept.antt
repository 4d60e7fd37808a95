-- What a compaction keeps of its inputs: what is left of them by four rules, one after the other.
use Rattle.std.specs.Prelude.{◌≡◌, ◌⊎◌, ℕ, ◌==◌, Bool, true, false, not, ◌&&◌, ◌||◌, if◌then◌else◌, List, map, filter, Option, Some, None, option_and_then, is_none}
use Rattle.std.specs.List.{list_any, list_all}
use Rattle.kv_base.specs.Map.{Bytes, same}
use Rattle.kv_base.specs.RawKeys.{RawKey, MetaKey, ElementKey, ScoreKey, read_raw}
use Rattle.kv_base.specs.MetaValues.{MetaValue, read_meta}
use Rattle.kv_base.specs.declared.row.Row.{Row}
use Rattle.row_model.specs.Rows.{seen_at, at}
use Rattle.lives_model.specs.Clean.{is_live, is_current}
use Rattle.filter_laws.specs.Watchers.{Watcher}

-- ---- what a watcher sees

-- whether this row, if there is one, has the sequence
abbrev pub has_seq : ℕ → Option Row → Bool
has_seq seq None = false
has_seq seq (Some row) = row.seq == seq

-- of each raw key the input row of greatest sequence not above its own
abbrev pub sees : List Row → Row → Watcher → Bool
sees inputs row w = has_seq row.seq (seen_at inputs w.seq row.raw)

-- ---- 1. A row that no watcher sees goes.

-- some watcher sees the row
abbrev pub is_seen : List Watcher → List Row → Row → Bool
is_seen watch inputs row = list_any (sees inputs row) watch

-- what the first rule leaves
abbrev pub seen_rows : List Watcher → List Row → List Row → List Row
seen_rows watch inputs rows = filter (is_seen watch inputs) rows

-- ---- 2. Metadata that is expired for each watcher that sees it becomes a delete of the same sequence.

-- a raw key of metadata
abbrev pub is_meta : Option RawKey → Bool
is_meta (Some (MetaKey k)) = true
is_meta _ = false

-- metadata that has expired at the moment
abbrev pub is_dead_meta : ℕ → Option MetaValue → Bool
is_dead_meta t None = false
is_dead_meta t (Some meta) = not (is_live t meta)

-- the row puts such metadata
abbrev pub has_expired : ℕ → Row → Bool
has_expired t row = is_meta (read_raw row.raw) && is_dead_meta t (option_and_then read_meta row.value)

-- it does so for each watcher that sees it
abbrev pub is_dead_to_all : List Watcher → List Row → Row → Bool
is_dead_to_all watch inputs row = list_all (λ w. not (sees inputs row w) || has_expired w.moment row) watch

-- the delete in the place of a row
abbrev pub buried : Row → Row
buried row = record row { value = None }

-- a row as the second rule leaves it
abbrev pub bury : List Watcher → List Row → Row → Row
bury watch inputs row = if is_dead_to_all watch inputs row then buried row else row

-- what the second rule leaves
abbrev pub buried_rows : List Watcher → List Row → List Row → List Row
buried_rows watch inputs rows = map (bury watch inputs) rows

-- ---- 3. A row of a life goes that the key has for no watcher.

-- the key and the version of a row of a life
abbrev pub row_life : Option RawKey → Option (Bytes × ℕ)
row_life (Some (ElementKey k version subkey)) = Some (k, version)
row_life (Some (ScoreKey k version score member)) = Some (k, version)
row_life _ = None

-- among all rows at its sequence, the key's metadata is unexpired at its moment, and has this version
abbrev pub watcher_has_life : List Row → Bytes × ℕ → Watcher → Bool
watcher_has_life all life w = is_current (at all w.seq) w.moment life.0 life.1

-- no watcher has the life, if it is one of a life
abbrev pub is_orphaned : List Watcher → List Row → Option (Bytes × ℕ) → Bool
is_orphaned watch all None = false
is_orphaned watch all (Some life) = not (list_any (watcher_has_life all life) watch)

-- the row is one of a life that no watcher has
abbrev pub is_orphan : List Watcher → List Row → Row → Bool
is_orphan watch all row = is_orphaned watch all (row_life (read_raw row.raw))

-- what the third rule leaves
abbrev pub rows_with_lives : List Watcher → List Row → List Row → List Row
rows_with_lives watch all rows = filter (λ row. not (is_orphan watch all row)) rows

-- ---- 4. A delete that every watcher sees goes where no row of its raw key is deeper.

-- some row has the raw key
abbrev pub has_raw : Bytes → List Row → Bool
has_raw raw rows = list_any (λ row. same raw row.raw) rows

-- a delete that each watcher sees, with nothing of its raw key deeper
abbrev pub is_idle : List Watcher → List Row → List Row → Row → Bool
is_idle watch inputs deeper row = is_none row.value && list_all (sees inputs row) watch && not (has_raw row.raw deeper)

-- what the fourth rule leaves
abbrev pub needed_rows : List Watcher → List Row → List Row → List Row → List Row
needed_rows watch inputs deeper rows = filter (λ row. not (is_idle watch inputs deeper row)) rows

-- ---- the four

-- what is left of the inputs, by who watches, the rows of deeper levels and all rows
unfoldable pub kept_rows : List Watcher → List Row → List Row → List Row → List Row
kept_rows watch inputs deeper all = needed_rows watch inputs deeper (rows_with_lives watch all (buried_rows watch inputs (seen_rows watch inputs inputs)))

-- what is left of a row that is seen: the row, or its burial
pub record IsRowOrBurial (watch : List Watcher) (inputs : List Row) (row o : Row) : Type 0 where
  pub seen : is_seen watch inputs row ≡ true
  pub raw : o.raw ≡ row.raw
  pub seq : o.seq ≡ row.seq
  pub is : (o ≡ row) ⊎ ((o ≡ buried row) × (is_dead_to_all watch inputs row ≡ true))
