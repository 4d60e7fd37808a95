-- Metadata is read back as it was written, and nothing else is read.
use Rattle.std.proofs.Common.{◌≡◌, ℕ, ◌-◌, ◌<◌, ◌^◌, [], ◌∷◌, ◌++◌, refl, ap, subst, ◌∙◌, Bool, true, false, cond, Option, Some, None, option_map, option_and_then, append-nil, arith}
use Rattle.std.specs.Prelude.{◌==◌, ◌&&◌, nat_le, nat_lt, IsTrue}
use Rattle.std.proofs.lemmas.Bool.Decides.{nat_tests}
use Rattle.kv_base.specs.declared.kind.Kind.{Kind}
use Rattle.kv_base.specs.declared.kind.Kind.TheVariants.{Hash, Set, ZSet}
use Rattle.kv_base.specs.Map.{Bytes, kept}
use Rattle.kv_base.specs.Fields.{u64, read_u64}
use Rattle.kv_base.specs.FieldLaws.{u64_is_read, only_u64_is_read}
use Rattle.kv_base.specs.InversionLaws.{same_some, and_then_is, map_is, if_is, kept_is, both_first, both_second, number_is}
use Rattle.kv_base.specs.RawKeys.{is_version}
use Rattle.kv_base.specs.MetaValues.{MetaValue, StringValue, LifeValue, ListValue, LifeNumbers, is_deadline, is_payload, is_size, is_meta_within, string_flags, list_flags, kind_flags, meta_text, kind_from, read_life_numbers, is_empty, life_with, list_ends, list_with, meta_parts, read_meta}

low_deadline : (deadline : ℕ) → is_deadline deadline ≡ true → deadline < 2 ^ 64
low_deadline deadline h = grind (arith, nat_tests)

low_version : (version : ℕ) → is_version version ≡ true → version < 2 ^ 64
low_version version h = grind (arith, nat_tests)

low_size : (size : ℕ) → is_size size ≡ true → size < 2 ^ 64
low_size size h = let bound = both_second (nat_le 1 size) (nat_lt size (2 ^ 32)) h in grind (arith, nat_tests)

low_tail : (tail : ℕ) → nat_lt tail (2 ^ 64) ≡ true → tail < 2 ^ 64
low_tail tail h = grind (arith, nat_tests)

-- ---- the three numbers in front

pub numbers_are_read : (deadline version size : ℕ) (behind : Bytes) → deadline < 2 ^ 64 → version < 2 ^ 64 → size < 2 ^ 64
    → read_life_numbers (u64 deadline ++ (u64 version ++ (u64 size ++ behind))) ≡ Some (record { deadline = deadline; version = version; size = size; behind = behind })
unfolding read_life_numbers
numbers_are_read deadline version size behind d v s =
    rw (u64_is_read deadline d (u64 version ++ (u64 size ++ behind)), u64_is_read version v (u64 size ++ behind), u64_is_read size s behind) refl

pub only_numbers_are_read : (bytes : Bytes) (n : LifeNumbers) → read_life_numbers bytes ≡ Some n
    → (bytes ≡ u64 n.deadline ++ (u64 n.version ++ (u64 n.size ++ n.behind))) × (n.deadline < 2 ^ 64) × (n.version < 2 ^ 64) × (n.size < 2 ^ 64)
unfolding read_life_numbers
only_numbers_are_read bytes n e =
    let deadline = and_then_is (λ (d : ℕ × Bytes). option_and_then (λ (v : ℕ × Bytes). option_map (λ (s : ℕ × Bytes). with_numbers d v s) (read_u64 v.1)) (read_u64 d.1)) (read_u64 bytes) n e in
    let version = and_then_is (λ (v : ℕ × Bytes). option_map (λ (s : ℕ × Bytes). with_numbers deadline.0 v s) (read_u64 v.1)) (read_u64 deadline.0.1) n deadline.2 in
    let size = map_is (λ (s : ℕ × Bytes). with_numbers deadline.0 version.0 s) (read_u64 version.0.1) n version.2 in
    let d = only_u64_is_read bytes deadline.0.0 deadline.0.1 deadline.1 in
    let v = only_u64_is_read deadline.0.1 version.0.0 version.0.1 version.1 in
    let s = only_u64_is_read version.0.1 size.0.0 size.0.1 size.1 in
    let whole : bytes ≡ u64 deadline.0.0 ++ (u64 version.0.0 ++ (u64 size.0.0 ++ size.0.1)) = d.0 ∙ ap (λ b. u64 deadline.0.0 ++ b) (v.0 ∙ ap (λ b. u64 version.0.0 ++ b) s.0) in
    subst IsNumbersOf size.2 (whole, d.1, v.1, s.1)
  where
    with_numbers : ℕ × Bytes → ℕ × Bytes → ℕ × Bytes → LifeNumbers
    with_numbers d v s = record { deadline = d.0; version = v.0; size = s.0; behind = s.1 }

    IsNumbersOf : LifeNumbers → Type 0
    IsNumbersOf m = (bytes ≡ u64 m.deadline ++ (u64 m.version ++ (u64 m.size ++ m.behind))) × (m.deadline < 2 ^ 64) × (m.version < 2 ^ 64) × (m.size < 2 ^ 64)

-- ---- metadata

kind_is_read : (kind : Kind) → kind_from (kind_flags kind) ≡ Some kind
kind_is_read Hash = refl
kind_is_read Set = refl
kind_is_read ZSet = refl

not_other : (kind : Kind) → ((kind_flags kind == string_flags) ≡ false) × ((kind_flags kind == list_flags) ≡ false)
not_other Hash = (refl, refl)
not_other Set = (refl, refl)
not_other ZSet = (refl, refl)

same_number : (n : ℕ) → (n == n) ≡ true
same_number n = grind (arith, nat_tests)

low_head : (head tail : ℕ) → is_size (tail - head) ≡ true → tail < 2 ^ 64 → head < 2 ^ 64
low_head head tail h low = let some = both_first (nat_le 1 (tail - head)) (nat_lt (tail - head) (2 ^ 32)) h in grind (arith, nat_tests)

life_parts : (kind : Kind) (bytes : Bytes) (n : LifeNumbers) → read_life_numbers bytes ≡ Some n → kept is_meta_within (meta_parts (kind_flags kind) bytes) ≡ kept is_meta_within (life_with kind n)
unfolding meta_parts
life_parts Hash bytes n e = ap (λ o. kept is_meta_within (option_and_then (life_with Hash) o)) e
life_parts Set bytes n e = ap (λ o. kept is_meta_within (option_and_then (life_with Set) o)) e
life_parts ZSet bytes n e = ap (λ o. kept is_meta_within (option_and_then (life_with ZSet) o)) e

pub meta_is_read : (m : MetaValue) → IsTrue (is_meta_within m) → read_meta (meta_text m) ≡ Some m
unfolding read_meta meta_text meta_parts is_meta_within
meta_is_read (StringValue deadline payload) h =
    let d = low_deadline deadline (both_first (is_deadline deadline) (is_payload payload) h) in
    ap (λ n. kept is_meta_within (option_map (λ front. StringValue front.0 front.1) n)) (u64_is_read deadline d payload)
    ∙ ap (λ b. cond b (Some (StringValue deadline payload)) None) h
meta_is_read (LifeValue kind deadline version size) h =
    let life = both_first (is_deadline deadline && is_version version) (is_size size) h in
    let d = low_deadline deadline (both_first (is_deadline deadline) (is_version version) life) in
    let v = low_version version (both_second (is_deadline deadline) (is_version version) life) in
    let s = low_size size (both_second (is_deadline deadline && is_version version) (is_size size) h) in
    let numbers = numbers_are_read deadline version size [] d v s in
    let whole : read_life_numbers (u64 deadline ++ (u64 version ++ u64 size)) ≡ Some (record { deadline = deadline; version = version; size = size; behind = [] }) = rw (append-nil) at numbers in
    life_parts kind (u64 deadline ++ (u64 version ++ u64 size)) (record { deadline = deadline; version = version; size = size; behind = [] }) whole
    ∙ ap (λ b. cond b (Some (LifeValue kind deadline version size)) None) h
meta_is_read (ListValue deadline version head tail) h =
    let before_tail = both_first (is_deadline deadline && is_version version && is_size (tail - head)) (nat_lt tail (2 ^ 64)) h in
    let life = both_first (is_deadline deadline && is_version version) (is_size (tail - head)) before_tail in
    let d = low_deadline deadline (both_first (is_deadline deadline) (is_version version) life) in
    let v = low_version version (both_second (is_deadline deadline) (is_version version) life) in
    let s = low_size (tail - head) (both_second (is_deadline deadline && is_version version) (is_size (tail - head)) before_tail) in
    let t = low_tail tail (both_second (is_deadline deadline && is_version version && is_size (tail - head)) (nat_lt tail (2 ^ 64)) h) in
    let more = low_head head tail (both_second (is_deadline deadline && is_version version) (is_size (tail - head)) before_tail) t in
    let last : read_u64 (u64 tail) ≡ Some (tail, []) = rw (append-nil (u64 tail)) at (u64_is_read tail t []) in
    ap (λ n. kept is_meta_within (option_and_then list_with n)) (numbers_are_read deadline version (tail - head) (u64 head ++ u64 tail) d v s)
    ∙ ap (λ o. kept is_meta_within (option_and_then (λ h. option_and_then (list_ends (record { deadline = deadline; version = version; size = tail - head; behind = u64 head ++ u64 tail }) h.0) (read_u64 h.1)) o)) (u64_is_read head more (u64 tail))
    ∙ ap (λ o. kept is_meta_within (option_and_then (list_ends (record { deadline = deadline; version = version; size = tail - head; behind = u64 head ++ u64 tail }) head) o)) last
    ∙ ap (λ b. kept is_meta_within (cond (b && true) (Some (ListValue deadline version head tail)) None)) (same_number (tail - head))
    ∙ ap (λ b. cond b (Some (ListValue deadline version head tail)) None) h

-- ---- and nothing else

empty_is : (bytes : Bytes) → is_empty bytes ≡ true → bytes ≡ []
empty_is [] e = refl
empty_is (b ∷ bytes) e = absurd (cc)

by_flags : (flags : ℕ) (kind : Kind) (h s z : Bool) → (flags == 130) ≡ h → (flags == 132) ≡ s → (flags == 133) ≡ z
    → cond {A = Option Kind} h (Some Hash) (cond s (Some Set) (cond z (Some ZSet) None)) ≡ Some kind → flags ≡ kind_flags kind
by_flags flags kind true s z h_is s_is z_is e = number_is flags 130 h_is ∙ ap kind_flags (same_some Hash kind e)
by_flags flags kind false true z h_is s_is z_is e = number_is flags 132 s_is ∙ ap kind_flags (same_some Set kind e)
by_flags flags kind false false true h_is s_is z_is e = number_is flags 133 z_is ∙ ap kind_flags (same_some ZSet kind e)
by_flags flags kind false false false h_is s_is z_is e = absurd (cc)

kind_is : (flags : ℕ) (kind : Kind) → kind_from flags ≡ Some kind → flags ≡ kind_flags kind
kind_is flags kind e = by_flags flags kind _ _ _ refl refl refl e

string_is : (bytes : Bytes) (m : MetaValue) → option_map (λ deadline. StringValue deadline.0 deadline.1) (read_u64 bytes) ≡ Some m → string_flags ∷ bytes ≡ meta_text m
unfolding meta_text
string_is bytes m e =
    let deadline = map_is (λ (d : ℕ × Bytes). StringValue d.0 d.1) (read_u64 bytes) m e in
    let d = only_u64_is_read bytes deadline.0.0 deadline.0.1 deadline.1 in
    ap (λ b. string_flags ∷ b) d.0 ∙ ap meta_text deadline.2

list_is : (bytes : Bytes) (m : MetaValue) → option_and_then list_with (read_life_numbers bytes) ≡ Some m → list_flags ∷ bytes ≡ meta_text m
unfolding meta_text
list_is bytes m e =
    let numbers = and_then_is list_with (read_life_numbers bytes) m e in
    let n = numbers.0 in
    let head = and_then_is (λ (h : ℕ × Bytes). option_and_then (list_ends n h.0) (read_u64 h.1)) (read_u64 n.behind) m numbers.2 in
    let tail = and_then_is (list_ends n head.0.0) (read_u64 head.0.1) m head.2 in
    let test = if_is ((n.size == tail.0.0 - head.0.0) && is_empty tail.0.1) (Some (ListValue n.deadline n.version head.0.0 tail.0.0)) m tail.2 in
    let size : n.size ≡ tail.0.0 - head.0.0 = number_is n.size (tail.0.0 - head.0.0) (both_first (n.size == tail.0.0 - head.0.0) (is_empty tail.0.1) test.0) in
    let end : tail.0.1 ≡ [] = empty_is tail.0.1 (both_second (n.size == tail.0.0 - head.0.0) (is_empty tail.0.1) test.0) in
    let h = only_u64_is_read n.behind head.0.0 head.0.1 head.1 in
    let t = only_u64_is_read head.0.1 tail.0.0 tail.0.1 tail.1 in
    let last : head.0.1 ≡ u64 tail.0.0 = t.0 ∙ ap (λ b. u64 tail.0.0 ++ b) end ∙ append-nil (u64 tail.0.0) in
    let behind : n.behind ≡ u64 head.0.0 ++ u64 tail.0.0 = h.0 ∙ ap (λ b. u64 head.0.0 ++ b) last in
    ap (λ b. list_flags ∷ b) ((only_numbers_are_read bytes n numbers.1).0)
    ∙ ap (λ b. list_flags ∷ (u64 n.deadline ++ (u64 n.version ++ (u64 n.size ++ b)))) behind
    ∙ ap (λ s. list_flags ∷ (u64 n.deadline ++ (u64 n.version ++ (u64 s ++ (u64 head.0.0 ++ u64 tail.0.0))))) size
    ∙ ap meta_text (same_some (ListValue n.deadline n.version head.0.0 tail.0.0) m test.1)

life_is : (flags : ℕ) (bytes : Bytes) (m : MetaValue) → option_and_then (λ kind. option_and_then (life_with kind) (read_life_numbers bytes)) (kind_from flags) ≡ Some m → flags ∷ bytes ≡ meta_text m
unfolding meta_text
life_is flags bytes m e =
    let kind = and_then_is (λ (k : Kind). option_and_then (life_with k) (read_life_numbers bytes)) (kind_from flags) m e in
    let numbers = and_then_is (life_with kind.0) (read_life_numbers bytes) m kind.2 in
    let n = numbers.0 in
    let test = if_is (is_empty n.behind) (Some (LifeValue kind.0 n.deadline n.version n.size)) m numbers.2 in
    let last : u64 n.size ++ n.behind ≡ u64 n.size = ap (λ b. u64 n.size ++ b) (empty_is n.behind test.0) ∙ append-nil (u64 n.size) in
    ap (λ b. flags ∷ b) ((only_numbers_are_read bytes n numbers.1).0)
    ∙ ap (λ b. flags ∷ (u64 n.deadline ++ (u64 n.version ++ b))) last
    ∙ ap (λ f. f ∷ (u64 n.deadline ++ (u64 n.version ++ u64 n.size))) (kind_is flags kind.0 kind.1)
    ∙ ap meta_text (same_some (LifeValue kind.0 n.deadline n.version n.size) m test.1)

by_type : (flags : ℕ) (bytes : Bytes) (m : MetaValue) (s l : Bool) → (flags == string_flags) ≡ s → (flags == list_flags) ≡ l
    → cond s (option_map (λ deadline. StringValue deadline.0 deadline.1) (read_u64 bytes)) (cond l (option_and_then list_with (read_life_numbers bytes)) (option_and_then (λ kind. option_and_then (life_with kind) (read_life_numbers bytes)) (kind_from flags))) ≡ Some m
    → flags ∷ bytes ≡ meta_text m
by_type flags bytes m true l s_is l_is e = ap (λ f. f ∷ bytes) (number_is flags string_flags s_is) ∙ string_is bytes m e
by_type flags bytes m false true s_is l_is e = ap (λ f. f ∷ bytes) (number_is flags list_flags l_is) ∙ list_is bytes m e
by_type flags bytes m false false s_is l_is e = life_is flags bytes m e

parts_are : (flags : ℕ) (bytes : Bytes) (m : MetaValue) → meta_parts flags bytes ≡ Some m → flags ∷ bytes ≡ meta_text m
unfolding meta_parts
parts_are flags bytes m e = by_type flags bytes m _ _ refl refl e

pub only_meta_is_read : (bytes : Bytes) (m : MetaValue) → read_meta bytes ≡ Some m → (bytes ≡ meta_text m) × IsTrue (is_meta_within m)
unfolding read_meta
only_meta_is_read [] m e = absurd (cc)
only_meta_is_read (flags ∷ bytes) m e =
    let read = kept_is is_meta_within (meta_parts flags bytes) m e in
    (parts_are flags bytes m read.0, read.1)
