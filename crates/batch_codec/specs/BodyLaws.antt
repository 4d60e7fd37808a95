-- A record is read back from its body as it was written, and nothing else is read: each record has one body.
use Rattle.std.proofs.Common.{◌≡◌, ℕ, zero, suc, ◌+◌, ◌-◌, ◌<◌, ◌≤◌, ◌^◌, List, [], ◌∷◌, ◌++◌, refl, sym, ap, subst, ◌∙◌, Bool, true, false, cond, length, Option, Some, None, option_map, option_and_then, append_assoc, length-append, arith}
use Rattle.std.specs.Prelude.{◌==◌, ◌&&◌, nat_le, if◌then◌else◌, IsTrue, T}
use Rattle.std.specs.declared.cmp.Ordering.{Ordering}
use Rattle.std.specs.declared.cmp.Ordering.TheVariants.{Less, Equal, Greater}
use Rattle.std.specs.Ordering.{is_lt}
use Rattle.std.specs.Cmp.Lexicographic.{nat_list_cmp_total}
use Rattle.std.specs.FinMap.Entries.{below_all, is_sorted}
use Rattle.std.proofs.lemmas.Bool.Decides.{nat_tests}
use Rattle.kv_base.specs.Map.{Bytes, byte_cmp, size, from_list}
use Rattle.kv_base.specs.Fields.{u32, u64, text, read_u32, read_u64, read_text}
use Rattle.kv_base.specs.FieldLaws.{u32_is_read, u64_is_read, text_is_read, only_u32_is_read, only_u64_is_read, only_text_is_read, length-u32, length-u64, length-text}
use Rattle.kv_base.specs.MetaValues.{is_empty}
use Rattle.kv_base.specs.InversionLaws.{same_some, and_then_is, map_is, if_is, both_first, both_second, number_is}
use Rattle.batch_codec.specs.Batches.{BatchEntry, Batch, is_row, are_rows}
use Rattle.batch_codec.specs.EntryListLaws.{entries_from_list, from_its_entries}
use Rattle.batch_codec.specs.declared.record.Record.{Record}
use Rattle.batch_codec.specs.Bodies.{entry_text, entries_text, body_of, is_seq, is_moment, value_behind, deleted, read_entry, is_above, is_next_entry, read_entries, Head, read_head, is_head, record_of, entries_behind, read_body}
use Rattle.kv_base.specs.TestLaws.{less_is as less}

-- ---- entries

entry_is_read : (e : BatchEntry) (bytes : Bytes) → length (entry_text e) < 2 ^ 32 → read_entry (entry_text e ++ bytes) ≡ Some (e, bytes)
unfolding read_entry
entry_is_read (raw, Some value) bytes short =
    let a = length-append (text raw) (text value) in
    let b = length-text raw in
    let c = length-text value in
    ap (λ b. option_and_then value_behind (read_text b)) (append_assoc (text raw) (text value) bytes)
    ∙ ap (λ r. option_and_then value_behind r) (text_is_read raw (omega (arith, short, a, b, c)) (text value ++ bytes))
    ∙ ap (λ r. option_map (λ value. ((raw, Some value.0), value.1)) r) (text_is_read value (omega (arith, short, a, b, c)) bytes)
entry_is_read (raw, None) bytes short =
    let b = length-text raw in
    ap (λ r. option_map deleted r) (text_is_read raw (omega (arith, short, b)) bytes)

by_mark : (mark : ℕ) (bytes : Bytes) (p : BatchEntry × Bytes) (put del : Bool) → (mark == 1) ≡ put → (mark == 0) ≡ del
    → cond put (option_and_then value_behind (read_text bytes)) (cond del (option_map deleted (read_text bytes)) None) ≡ Some p → mark ∷ bytes ≡ entry_text p.0 ++ p.1
by_mark mark bytes p true del put_is del_is h =
    let raw = and_then_is value_behind (read_text bytes) p h in
    let value = map_is (λ (v : Bytes × Bytes). ((raw.0.0, Some v.0), v.1)) (read_text raw.0.1) p raw.2 in
    let r = (only_text_is_read bytes raw.0.0 raw.0.1 raw.1).0 in
    let v = (only_text_is_read raw.0.1 value.0.0 value.0.1 value.1).0 in
    let whole : bytes ≡ (text raw.0.0 ++ text value.0.0) ++ value.0.1 = r ∙ ap (λ b. text raw.0.0 ++ b) v ∙ sym (append_assoc (text raw.0.0) (text value.0.0) value.0.1) in
    subst (λ (q : BatchEntry × Bytes). mark ∷ bytes ≡ entry_text q.0 ++ q.1) value.2 (λ i. number_is mark 1 put_is i ∷ whole i)
by_mark mark bytes p false true put_is del_is h =
    let raw = map_is deleted (read_text bytes) p h in
    let r = (only_text_is_read bytes raw.0.0 raw.0.1 raw.1).0 in
    subst (λ (q : BatchEntry × Bytes). mark ∷ bytes ≡ entry_text q.0 ++ q.1) raw.2 (λ i. number_is mark 0 del_is i ∷ r i)
by_mark mark bytes p false false put_is del_is h = absurd (cc)

only_entry_is_read : (bytes : Bytes) (p : BatchEntry × Bytes) → read_entry bytes ≡ Some p → bytes ≡ entry_text p.0 ++ p.1
unfolding read_entry
only_entry_is_read [] p h = absurd (cc)
only_entry_is_read (mark ∷ bytes) p h = by_mark mark bytes p _ _ refl refl h

-- ---- each above the one before it, and all in order

abbrev pub raw_keys_rise : Option Bytes → List BatchEntry → Bool
raw_keys_rise last [] = true
raw_keys_rise last (e ∷ es) = is_above last e.0 && raw_keys_rise (Some e.0) es

is_true : (b : Bool) → T b → b ≡ true
is_true true h = refl
is_true false h = absurd h

holds : (b : Bool) → b ≡ true → T b
holds b h = subst T (sym h) tt

all : (a b : Bool) → a ≡ true → b ≡ true → (a && b) ≡ true
all a b e f = rw (e, f) refl

still_below : (a b : Bytes) (es : List BatchEntry) → byte_cmp a b ≡ Less → below_all byte_cmp b es ≡ true → below_all byte_cmp a es ≡ true
still_below a b [] h below = refl
still_below a b (e ∷ es) h below =
    let next = less (byte_cmp b e.0) (both_first (is_lt (byte_cmp b e.0)) (below_all byte_cmp b es) below) in
    all (is_lt (byte_cmp a e.0)) (below_all byte_cmp a es) (ap is_lt (nat_list_cmp_total.trans a b e.0 h next)) (still_below a b es h (both_second (is_lt (byte_cmp b e.0)) (below_all byte_cmp b es) below))

rise_below : (k : Bytes) (es : List BatchEntry) → raw_keys_rise (Some k) es ≡ true → below_all byte_cmp k es ≡ true
rise_below k [] up = refl
rise_below k (e ∷ es) up =
    let next = both_first (is_lt (byte_cmp k e.0)) (raw_keys_rise (Some e.0) es) up in
    all (is_lt (byte_cmp k e.0)) (below_all byte_cmp k es) next (still_below k e.0 es (less (byte_cmp k e.0) next) (rise_below e.0 es (both_second (is_lt (byte_cmp k e.0)) (raw_keys_rise (Some e.0) es) up)))

rise_sorted : (last : Option Bytes) (es : List BatchEntry) → raw_keys_rise last es ≡ true → is_sorted byte_cmp es ≡ true
rise_sorted last [] up = refl
rise_sorted last (e ∷ es) up =
    let rest = both_second (is_above last e.0) (raw_keys_rise (Some e.0) es) up in
    all (below_all byte_cmp e.0 es) (is_sorted byte_cmp es) (rise_below e.0 es rest) (rise_sorted (Some e.0) es rest)

sorted_rise : (last : Option Bytes) (es : List BatchEntry) → is_sorted byte_cmp es ≡ true → ((e : BatchEntry) (rest : List BatchEntry) → es ≡ e ∷ rest → is_above last e.0 ≡ true) → raw_keys_rise last es ≡ true
sorted_rise last [] up first = refl
sorted_rise last (e ∷ es) up first =
    let below = both_first (below_all byte_cmp e.0 es) (is_sorted byte_cmp es) up in
    all (is_above last e.0) (raw_keys_rise (Some e.0) es) (first e es refl)
    (sorted_rise (Some e.0) es (both_second (below_all byte_cmp e.0 es) (is_sorted byte_cmp es) up)
    (λ f rest is. both_first (is_lt (byte_cmp e.0 f.0)) (below_all byte_cmp e.0 rest) (subst (λ (l : List BatchEntry). below_all byte_cmp e.0 l ≡ true) is below)))

-- ---- so many entries

abbrev pub read_next_entry : ℕ → Option Bytes → BatchEntry × Bytes → Option (List BatchEntry)
read_next_entry n last front = if is_next_entry last front.0 then option_map (λ entries. front.0 ∷ entries) (read_entries n (Some front.0.0) front.1) else None

pub read_more : (n : ℕ) (last : Option Bytes) (bytes : Bytes) → read_entries (suc n) last bytes ≡ option_and_then (read_next_entry n last) (read_entry bytes)
unfolding read_entries
read_more n last bytes = refl

entries_are_read : (es : List BatchEntry) (last : Option Bytes) → length (entries_text es) < 2 ^ 32 → raw_keys_rise last es ≡ true → are_rows es ≡ true → read_entries (length es) last (entries_text es) ≡ Some es
unfolding read_entries
entries_are_read [] last short up rows = refl
entries_are_read (e ∷ es) last short up rows =
    let parts = length-append (entry_text e) (entries_text es) in
    let next : is_next_entry last e ≡ true = all (is_above last e.0) (is_row e) (both_first (is_above last e.0) (raw_keys_rise (Some e.0) es) up) (both_first (is_row e) (are_rows es) rows) in
    ap (λ r. option_and_then (read_next_entry (length es) last) r) (entry_is_read e (entries_text es) (omega (arith, short, parts)))
    ∙ ap (λ b. cond b (option_map (λ entries. e ∷ entries) (read_entries (length es) (Some e.0) (entries_text es))) None) next
    ∙ ap (λ r. option_map (λ entries. e ∷ entries) r) (entries_are_read es (Some e.0) (omega (arith, short, parts)) (both_second (is_above last e.0) (raw_keys_rise (Some e.0) es) up) (both_second (is_row e) (are_rows es) rows))

pub record AreEntriesOf (n : ℕ) (last : Option Bytes) (bytes : Bytes) (es : List BatchEntry) : Type 0 where
  pub spelled : bytes ≡ entries_text es
  pub count : length es ≡ n
  pub up : raw_keys_rise last es ≡ true
  pub rows : are_rows es ≡ true

empty_is : (bytes : Bytes) → is_empty bytes ≡ true → bytes ≡ []
empty_is [] e = refl
empty_is (b ∷ bytes) e = absurd (cc)

only_entries_are_read : (n : ℕ) (last : Option Bytes) (bytes : Bytes) (es : List BatchEntry) → read_entries n last bytes ≡ Some es → AreEntriesOf n last bytes es
unfolding read_entries
only_entries_are_read zero last bytes es h =
    let end = if_is (is_empty bytes) (Some []) es h in
    subst (λ (l : List BatchEntry). AreEntriesOf zero last bytes l) (same_some [] es end.1) (record { spelled = empty_is bytes end.0; count = refl; up = refl; rows = refl })
only_entries_are_read (suc n) last bytes es h =
    let front = and_then_is (read_next_entry n last) (read_entry bytes) es h in
    let e = front.0.0 in
    let next = if_is (is_next_entry last e) (option_map (λ entries. e ∷ entries) (read_entries n (Some e.0) front.0.1)) es front.2 in
    let rest = map_is (λ (l : List BatchEntry). e ∷ l) (read_entries n (Some e.0) front.0.1) es next.1 in
    let more = only_entries_are_read n (Some e.0) front.0.1 rest.0 rest.1 in
    subst (λ (l : List BatchEntry). AreEntriesOf (suc n) last bytes l) rest.2 (record {
      spelled = only_entry_is_read bytes front.0 front.1 ∙ ap (λ b. entry_text e ++ b) more.spelled;
      count = ap suc more.count;
      up = all (is_above last e.0) (raw_keys_rise (Some e.0) rest.0) (both_first (is_above last e.0) (is_row e) next.0) more.up;
      rows = all (is_row e) (are_rows rest.0) (both_second (is_above last e.0) (is_row e) next.0) more.rows;
    })

-- ---- the head

head_is_read : (seq moment count : ℕ) (behind : Bytes) → seq < 2 ^ 64 → moment < 2 ^ 64 → count < 2 ^ 32
    → read_head (u64 seq ++ (u64 moment ++ (u32 count ++ behind))) ≡ Some (record { seq = seq; moment = moment; count = count; behind = behind })
unfolding read_head
head_is_read seq moment count behind s m c = rw (u64_is_read seq s (u64 moment ++ (u32 count ++ behind)), u64_is_read moment m (u32 count ++ behind), u32_is_read count c behind) refl

abbrev pub record_head_text : Head → Bytes
record_head_text head = u64 head.seq ++ (u64 head.moment ++ (u32 head.count ++ head.behind))

only_head_is_read : (bytes : Bytes) (head : Head) → read_head bytes ≡ Some head → bytes ≡ record_head_text head
unfolding read_head
only_head_is_read bytes head h =
    let seq = and_then_is (λ (s : ℕ × Bytes). option_and_then (λ (m : ℕ × Bytes). option_map (λ (c : ℕ × Bytes). with_numbers s m c) (read_u32 m.1)) (read_u64 s.1)) (read_u64 bytes) head h in
    let moment = and_then_is (λ (m : ℕ × Bytes). option_map (λ (c : ℕ × Bytes). with_numbers seq.0 m c) (read_u32 m.1)) (read_u64 seq.0.1) head seq.2 in
    let count = map_is (λ (c : ℕ × Bytes). with_numbers seq.0 moment.0 c) (read_u32 moment.0.1) head moment.2 in
    let s = (only_u64_is_read bytes seq.0.0 seq.0.1 seq.1).0 in
    let m = (only_u64_is_read seq.0.1 moment.0.0 moment.0.1 moment.1).0 in
    let c = (only_u32_is_read moment.0.1 count.0.0 count.0.1 count.1).0 in
    let whole : bytes ≡ u64 seq.0.0 ++ (u64 moment.0.0 ++ (u32 count.0.0 ++ count.0.1)) = s ∙ ap (λ b. u64 seq.0.0 ++ b) (m ∙ ap (λ b. u64 moment.0.0 ++ b) c) in
    whole ∙ ap record_head_text count.2
  where
    with_numbers : ℕ × Bytes → ℕ × Bytes → ℕ × Bytes → Head
    with_numbers s m c = record { seq = s.0; moment = m.0; count = c.0; behind = c.1 }

-- ---- the body

pub length-body : (seq moment : ℕ) (batch : Batch) → length (body_of seq moment batch) ≡ 20 + length (entries_text batch.entries)
unfolding body_of
length-body seq moment batch =
    let a = length-append (u64 seq) (u64 moment ++ (u32 (size batch) ++ entries_text batch.entries)) in
    let b = length-append (u64 moment) (u32 (size batch) ++ entries_text batch.entries) in
    let c = length-append (u32 (size batch)) (entries_text batch.entries) in
    let s = length-u64 seq in
    let m = length-u64 moment in
    let n = length-u32 (size batch) in
    omega (arith, a, b, c, s, m, n)

low_seq : (seq : ℕ) → is_seq seq ≡ true → seq < 2 ^ 64
low_seq seq h = let bound = both_second (nat_le 1 seq) (nat_le seq (2 ^ 42 - 2)) h in grind (arith, nat_tests)

low_moment : (moment : ℕ) → is_moment moment ≡ true → moment < 2 ^ 64
low_moment moment h = grind (arith, nat_tests)

-- each entry has a byte at least
pub entries_have_bytes : (es : List BatchEntry) → length es ≤ length (entries_text es)
entries_have_bytes [] = omega arith
entries_have_bytes (e ∷ es) = let rest = entries_have_bytes es in let parts = length-append (entry_text e) (entries_text es) in let some = one e in omega (arith, rest, parts, some)
  where
    one : (e : BatchEntry) → 1 ≤ length (entry_text e)
    one (raw, Some value) = omega arith
    one (raw, None) = omega arith

-- a record that may be written
pub record IsWritable (seq moment : ℕ) (batch : Batch) : Type 0 where
  pub seq_is : IsTrue (is_seq seq)
  pub moment_is : IsTrue (is_moment moment)
  pub some : 1 ≤ size batch
  pub rows : IsTrue (are_rows batch.entries)

pub body_is_read : (seq moment : ℕ) (batch : Batch) → IsWritable seq moment batch → length (body_of seq moment batch) < 2 ^ 32 → read_body (body_of seq moment batch) ≡ Some (record { seq = seq; moment = moment; batch = batch })
unfolding read_body body_of is_head size
body_is_read seq moment batch w short =
    let total = length-body seq moment batch in
    let bound = entries_have_bytes batch.entries in
    let count = length batch.entries in
    let some : nat_le 1 count ≡ true = (let h = w.some in grind (arith, nat_tests)) in
    let head : (is_seq seq && is_moment moment && nat_le 1 count) ≡ true = all (is_seq seq && is_moment moment) (nat_le 1 count) (all (is_seq seq) (is_moment moment) w.seq_is w.moment_is) some in
    let up : raw_keys_rise None batch.entries ≡ true = sorted_rise None batch.entries (is_true (is_sorted byte_cmp batch.entries) batch.sorted) (λ e rest is. refl) in
    ap (λ r. option_and_then entries_behind r) (head_is_read seq moment count (entries_text batch.entries) (low_seq seq w.seq_is) (low_moment moment w.moment_is) (omega (arith, total, bound, short)))
    ∙ ap (λ b. cond b (option_map (record_of (record { seq = seq; moment = moment; count = count; behind = entries_text batch.entries })) (read_entries count None (entries_text batch.entries))) None) head
    ∙ ap (λ r. option_map (record_of (record { seq = seq; moment = moment; count = count; behind = entries_text batch.entries })) r) (entries_are_read batch.entries None (omega (arith, total, short)) up w.rows)
    ∙ ap (λ (b : Batch). Some (record { seq = seq; moment = moment; batch = b })) (from_its_entries batch)

pub record IsBodyOf (bytes : Bytes) (r : Record) : Type 0 where
  pub spelled : bytes ≡ body_of r.seq r.moment r.batch
  pub writable : IsWritable r.seq r.moment r.batch

pub only_body_is_read : (bytes : Bytes) (r : Record) → read_body bytes ≡ Some r → IsBodyOf bytes r
unfolding read_body body_of is_head size
only_body_is_read bytes r h =
    let head = and_then_is entries_behind (read_head bytes) r h in
    let test = if_is (is_head head.0) (option_map (record_of head.0) (read_entries head.0.count None head.0.behind)) r head.2 in
    let entries = map_is (record_of head.0) (read_entries head.0.count None head.0.behind) r test.1 in
    let es = entries.0 in
    let read = only_entries_are_read head.0.count None head.0.behind es entries.1 in
    let same = entries_from_list es (holds (is_sorted byte_cmp es) (rise_sorted None es read.up)) in
    let numbers = both_first (is_seq head.0.seq && is_moment head.0.moment) (nat_le 1 head.0.count) test.0 in
    let least = both_second (is_seq head.0.seq && is_moment head.0.moment) (nat_le 1 head.0.count) test.0 in
    let counted = ap length same ∙ read.count in
    subst (λ (q : Record). IsBodyOf bytes q) entries.2 (record {
      spelled = only_head_is_read bytes head.0 head.1
          ∙ ap (λ b. u64 head.0.seq ++ (u64 head.0.moment ++ (u32 head.0.count ++ b))) (read.spelled ∙ ap entries_text (sym same))
          ∙ ap (λ n. u64 head.0.seq ++ (u64 head.0.moment ++ (u32 n ++ entries_text (from_list es).entries))) (sym counted);
      writable = record {
        seq_is = both_first (is_seq head.0.seq) (is_moment head.0.moment) numbers;
        moment_is = both_second (is_seq head.0.seq) (is_moment head.0.moment) numbers;
        some = at_least head.0.count (length (from_list es).entries) least counted;
        rows = ap are_rows same ∙ read.rows;
      };
    })
  where
    at_least : (n m : ℕ) → nat_le 1 n ≡ true → m ≡ n → 1 ≤ m
    at_least n m h e = grind (arith, nat_tests)
