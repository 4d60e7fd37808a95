-- The body of a record of the log: a sequence, a moment, and a batch whose entries stand in the order of their raw keys.
use Rattle.std.specs.Prelude.{ℕ, zero, suc, ◌-◌, ◌^◌, nat_le, Bool, true, if◌then◌else◌, ◌&&◌, ◌==◌, List, [], ◌∷◌, ◌++◌, Option, Some, None, option_map, option_and_then}
use Rattle.std.specs.Ordering.{is_lt}
use Rattle.kv_base.specs.Map.{Bytes, byte_cmp, size, from_list}
use Rattle.kv_base.specs.Fields.{u32, u64, text, read_u32, read_u64, read_text}
use Rattle.kv_base.specs.MetaValues.{is_empty}
use Rattle.batch_codec.specs.Batches.{BatchEntry, Batch, is_row}
use Rattle.batch_codec.specs.declared.record.Record.{Record}

-- ---- the bytes

-- a put is 1 and the texts of raw key and value, a delete 0 and the text of the raw key
abbrev pub entry_text : BatchEntry → Bytes
entry_text (raw, Some value) = 1 ∷ (text raw ++ text value)
entry_text (raw, None) = 0 ∷ text raw

abbrev pub entries_text : List BatchEntry → Bytes
entries_text [] = []
entries_text (entry ∷ entries) = entry_text entry ++ entries_text entries

unfoldable pub body_of : ℕ → ℕ → Batch → Bytes
body_of seq moment batch = u64 seq ++ (u64 moment ++ (u32 (size batch) ++ entries_text batch.entries))

-- ---- the limits

abbrev pub is_seq : ℕ → Bool
is_seq seq = nat_le 1 seq && nat_le seq (2 ^ 42 - 2)

abbrev pub is_moment : ℕ → Bool
is_moment moment = nat_le moment (2 ^ 61)

-- ---- back

abbrev pub value_behind : Bytes × Bytes → Option (BatchEntry × Bytes)
value_behind raw = option_map (λ value. ((raw.0, Some value.0), value.1)) (read_text raw.1)

abbrev pub deleted : Bytes × Bytes → BatchEntry × Bytes
deleted raw = ((raw.0, None), raw.1)

-- an entry, and what is behind it
unfoldable pub read_entry : Bytes → Option (BatchEntry × Bytes)
read_entry [] = None
read_entry (mark ∷ bytes) =
    if mark == 1 then option_and_then value_behind (read_text bytes)
    else if mark == 0 then option_map deleted (read_text bytes)
    else None

abbrev pub is_above : Option Bytes → Bytes → Bool
is_above None raw = true
is_above (Some last) raw = is_lt (byte_cmp last raw)

-- an entry that may stand behind the raw key before it
abbrev pub is_next_entry : Option Bytes → BatchEntry → Bool
is_next_entry last entry = is_above last entry.0 && is_row entry

-- so many entries, and nothing behind them
unfoldable pub read_entries : ℕ → Option Bytes → Bytes → Option (List BatchEntry)
read_entries zero last bytes = if is_empty bytes then Some [] else None
read_entries (suc n) last bytes =
    option_and_then (λ front. if is_next_entry last front.0 then option_map (λ entries. front.0 ∷ entries) (read_entries n (Some front.0.0) front.1) else None) (read_entry bytes)

pub record Head : Type 0 where
  pub seq : ℕ
  pub moment : ℕ
  pub count : ℕ
  pub behind : Bytes

unfoldable pub read_head : Bytes → Option Head
read_head bytes =
    option_and_then (λ seq. option_and_then (λ moment. option_map (λ count. record { seq = seq.0; moment = moment.0; count = count.0; behind = count.1 }) (read_u32 moment.1)) (read_u64 seq.1)) (read_u64 bytes)

unfoldable pub is_head : Head → Bool
is_head head = is_seq head.seq && is_moment head.moment && nat_le 1 head.count

abbrev pub record_of : Head → List BatchEntry → Record
record_of head entries = record { seq = head.seq; moment = head.moment; batch = from_list entries }

abbrev pub entries_behind : Head → Option Record
entries_behind head = if is_head head then option_map (record_of head) (read_entries head.count None head.behind) else None

-- the record that these bytes are the body of, if they are one's
unfoldable pub read_body : Bytes → Option Record
read_body bytes = option_and_then entries_behind (read_head bytes)
