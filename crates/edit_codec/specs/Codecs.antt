-- How values are read that stand one after another: a value from the front, and what is behind it.
use Rattle.std.specs.Prelude.{ℕ, zero, suc, if◌then◌else◌, List, [], ◌∷◌, ◌++◌, length, Option, Some, None, option_map, option_and_then}
use Rattle.std.specs.List.{flat_map}
use Rattle.kv_base.specs.Map.{Bytes}
use Rattle.kv_base.specs.Fields.{u32, read_u32}
use Rattle.kv_base.specs.MetaValues.{is_empty}

abbrev pub Reader : Type 0 → Type 0
Reader X = Bytes → Option (X × Bytes)

abbrev pub read_byte : Reader ℕ
read_byte [] = None
read_byte (b ∷ bytes) = Some (b, bytes)

-- two values
abbrev pub read_both : {X Y : Type 0} → Reader X → Reader Y → Reader (X × Y)
read_both first second bytes = option_and_then (λ x. option_map (λ y. ((x.0, y.0), y.1)) (second x.1)) (first bytes)

-- what is made of a value
abbrev pub read_as : {X Y : Type 0} → (X → Y) → Reader X → Reader Y
read_as f read bytes = option_map (λ x. (f x.0, x.1)) (read bytes)

-- so many values
unfoldable pub read_many : {X : Type 0} → Reader X → ℕ → Reader (List X)
read_many read zero bytes = Some ([], bytes)
read_many read (suc n) bytes = option_and_then (λ x. option_map (λ xs. (x.0 ∷ xs.0, xs.1)) (read_many read n x.1)) (read bytes)

-- as many values as a number in front says
abbrev pub read_list : {X : Type 0} → Reader X → Reader (List X)
read_list read bytes = option_and_then (λ n. read_many read n.0 n.1) (read_u32 bytes)

-- a value, and nothing behind it
abbrev pub read_whole : {X : Type 0} → Reader X → Bytes → Option X
read_whole read bytes = option_and_then (λ x. if is_empty x.1 then Some x.0 else None) (read bytes)

-- what was read behind these values
abbrev pub read_onto : {X : Type 0} → List X → Option (List X × Bytes) → Option (List X × Bytes)
read_onto front read = option_map (λ more. (front ++ more.0, more.1)) read

-- values behind their number
abbrev pub list_text : {X : Type 0} → (X → Bytes) → List X → Bytes
list_text text xs = u32 (length xs) ++ flat_map text xs

-- ---- what fits its fields

-- no bound at all
abbrev pub Anything : {X : Type 0} → X → Type 0
Anything x = Unit {0}

abbrev pub Both : {X Y : Type 0} → (X → Type 0) → (Y → Type 0) → X × Y → Type 0
Both fits also p = fits p.0 × also p.1

abbrev pub EachFits : {X : Type 0} → (X → Type 0) → List X → Type 0
EachFits fits [] = Unit {0}
EachFits fits (x ∷ xs) = fits x × EachFits fits xs
