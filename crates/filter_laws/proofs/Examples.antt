-- The rules on a few rows, and what goes wrong without them.
use Rattle.std.proofs.Common.{◌≡◌, refl, [], ◌∷◌}
use Rattle.std.specs.Prelude.{Some, None, codes}
use Rattle.kv_base.specs.Map.{Bytes, empty, get, insert, keep, choose}
use Rattle.kv_base.specs.Fields.{u32, u64, text, read_u32, read_u64, read_text}
use Rattle.kv_base.specs.RawKeys.{is_raw_within, raw_text, read_life, raw_parts, read_raw}
use Rattle.kv_base.specs.MetaValues.{LifeValue, is_meta_within, meta_text, meta_parts, read_life_numbers, read_meta}
use Rattle.kv_base.specs.declared.kind.Kind.TheVariants as kind
use Rattle.kv_base.specs.declared.row.Row.{Row}
use Rattle.row_model.specs.Rows.{seen_at, newest, at}
use Rattle.lives_model.specs.Rows.{Elements, meta_key, row_key}
use Rattle.lives_model.specs.Clean.{live_at, clean}
use Rattle.filter_laws.specs.Watchers.{Watcher}
use Rattle.filter_laws.specs.Kept.{buried, kept_rows}

h : Bytes
h = codes "h"

-- a hash that was made by batch 1 with one field, and removed by batch 2
made : Row
made = record { raw = meta_key h; seq = 1; value = Some (meta_text (LifeValue kind.Hash 0 4096 1)) }

field : Row
field = record { raw = row_key Elements h 4096 (codes "f"); seq = 1; value = Some (codes "x") }

removed : Row
removed = record { raw = meta_key h; seq = 2; value = None }

-- the same with the deadline 3
ending : Row
ending = record { raw = meta_key h; seq = 1; value = Some (meta_text (LifeValue kind.Hash 3 4096 1)) }

-- what an earlier batch left of it in a deeper level
older : Row
older = record { raw = meta_key h; seq = 0; value = Some (meta_text (LifeValue kind.Hash 0 2048 1)) }

now : Watcher
now = record { seq = 2; moment = 5 }

pin : Watcher
pin = record { seq = 1; moment = 2 }

-- ---- what is kept

-- nobody reads it: all goes
all_goes : kept_rows (now ∷ []) (removed ∷ made ∷ field ∷ []) [] (removed ∷ made ∷ field ∷ []) ≡ []
unfolding h made field removed now kept_rows seen_at newest at empty get insert choose live_at u32 u64 text read_u32 read_u64 read_text is_raw_within raw_text read_life raw_parts read_raw is_meta_within meta_text meta_parts read_life_numbers read_meta meta_key row_key
all_goes = refl

-- the delete stays over an older row
delete_stays : kept_rows (now ∷ []) (removed ∷ made ∷ field ∷ []) (older ∷ []) (removed ∷ made ∷ field ∷ older ∷ []) ≡ removed ∷ []
unfolding h made field removed older now kept_rows seen_at newest at empty get insert choose live_at u32 u64 text read_u32 read_u64 read_text is_raw_within raw_text read_life raw_parts read_raw is_meta_within meta_text meta_parts read_life_numbers read_meta meta_key row_key
delete_stays = refl

-- a pin reads it: all stays
all_stays : kept_rows (pin ∷ now ∷ []) (removed ∷ made ∷ field ∷ []) [] (removed ∷ made ∷ field ∷ []) ≡ removed ∷ made ∷ field ∷ []
unfolding h made field removed now pin kept_rows seen_at newest at empty get insert choose live_at u32 u64 text read_u32 read_u64 read_text is_raw_within raw_text read_life raw_parts read_raw is_meta_within meta_text meta_parts read_life_numbers read_meta meta_key row_key
all_stays = refl

-- expired metadata becomes a delete, which stays over an older row
burial_stays : kept_rows (now ∷ []) (ending ∷ field ∷ []) (older ∷ []) (ending ∷ field ∷ older ∷ []) ≡ buried ending ∷ []
unfolding h ending field older now kept_rows seen_at newest at empty get insert choose live_at u32 u64 text read_u32 read_u64 read_text is_raw_within raw_text read_life raw_parts read_raw is_meta_within meta_text meta_parts read_life_numbers read_meta meta_key row_key
burial_stays = refl

-- and goes over none
burial_goes : kept_rows (now ∷ []) (ending ∷ field ∷ []) [] (ending ∷ field ∷ []) ≡ []
unfolding h ending field now kept_rows seen_at newest at empty get insert choose live_at u32 u64 text read_u32 read_u64 read_text is_raw_within raw_text read_life raw_parts read_raw is_meta_within meta_text meta_parts read_life_numbers read_meta meta_key row_key
burial_goes = refl

-- at an earlier pin's moment it has not expired: all stays
pin_keeps : kept_rows (pin ∷ now ∷ []) (ending ∷ field ∷ []) [] (ending ∷ field ∷ []) ≡ ending ∷ field ∷ []
unfolding h ending field now pin kept_rows seen_at newest at empty get insert choose live_at u32 u64 text read_u32 read_u64 read_text is_raw_within raw_text read_life raw_parts read_raw is_meta_within meta_text meta_parts read_life_numbers read_meta meta_key row_key
pin_keeps = refl

-- ---- what goes wrong

-- without the burial the older row shows again
older_shows : get (clean (at (older ∷ []) now.seq) now.moment) (meta_key h) ≡ older.value
unfolding h older now clean keep seen_at newest at empty get insert choose live_at u32 u64 text read_u32 read_u64 read_text is_raw_within raw_text read_life raw_parts read_raw is_meta_within meta_text meta_parts read_life_numbers read_meta meta_key row_key
older_shows = refl

burial_hides : get (clean (at (buried ending ∷ older ∷ []) now.seq) now.moment) (meta_key h) ≡ None
unfolding h ending older now clean keep seen_at newest at empty get insert choose live_at u32 u64 text read_u32 read_u64 read_text is_raw_within raw_text read_life raw_parts read_raw is_meta_within meta_text meta_parts read_life_numbers read_meta meta_key row_key
burial_hides = refl

-- by the newest rows alone, or at the present moment, the pin would lose its field
pin_reads : get (clean (at (ending ∷ field ∷ []) pin.seq) pin.moment) field.raw ≡ field.value
unfolding h ending field pin clean keep seen_at newest at empty get insert choose live_at u32 u64 text read_u32 read_u64 read_text is_raw_within raw_text read_life raw_parts read_raw is_meta_within meta_text meta_parts read_life_numbers read_meta meta_key row_key
pin_reads = refl
