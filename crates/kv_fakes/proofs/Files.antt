-- Files in a list.
use Rattle.std.proofs.Common.{◌≡◌, ⊎_elim, ℕ, ◌+◌, ◌-◌, ◌<◌, ◌≤◌, min, zero, suc, Bool, true, false, leb, if◌then◌else◌, List, [], ◌∷◌, ◌++◌, length, take, drop, get_or, set, refl, sym, ◌∙◌, ap, subst, arith, length-append, length-drop, append-nil}
use Rattle.std.proofs.lemmas.List.{drop_all, take-append-le}
use Rattle.std.proofs.lemmas.Bool.{cases_lt}
use Rattle.std.proofs.lemmas.Bool.Decides.{nat_tests}
use Rattle.kv_base.specs.declared.name.FileName.{FileName}
use Rattle.kv_base.specs.Name.{same_name}
use Rattle.kv_base.specs.NameLaws.{same_name_true, same_name_self}
use Rattle.kv_fakes.specs.declared.file.File.{File}
use Rattle.kv_fakes.specs.Past.{overwritten, own_or}
use Rattle.kv_fakes.specs.Content.{content, file_place, SameContent, Rewrites}

-- ---- bytes over others

pub written_in : (at : ℕ) (piece old : List ℕ) → at ≤ length old → overwritten at piece old ≡ take at old ++ piece ++ drop (at + length piece) old
written_in at piece old le =
    let test : leb at (length old) ≡ true = grind (arith, nat_tests) in
    ap (λ (b : Bool). if b then take at old ++ piece ++ drop (at + length piece) old else old) test

pub written_behind : (at : ℕ) (piece old : List ℕ) → length old < at → overwritten at piece old ≡ old
written_behind at piece old lt =
    let test : leb at (length old) ≡ false = grind (arith, nat_tests) in
    ap (λ (b : Bool). if b then take at old ++ piece ++ drop (at + length piece) old else old) test

-- a write in two steps: what lies past the end is appended first
pub stretched : (at : ℕ) (piece old mid new : List ℕ) → at ≤ length old → mid ≡ old ++ drop (min (length piece) (length old - at)) piece
    → new ≡ take at mid ++ piece ++ drop (at + length piece) mid → new ≡ overwritten at piece old
stretched at piece old mid new le grown over =
    let n = length piece in
    let rest = drop (min n (length old - at)) piece in
    let front : take at mid ≡ take at old = ap (λ (l : List ℕ). take at l) grown ∙ take-append-le at old rest le in
    let long : length mid ≡ length old + (n - min n (length old - at)) = ap length grown ∙ length-append old rest ∙ ap (λ (k : ℕ). length old + k) (length-drop (min n (length old - at)) piece) in
    let behind : drop (at + n) mid ≡ drop (at + n) old = ⊎_elim
    (λ (lt : length old < at + n). drop_all (at + n) mid (omega arith) ∙ sym (drop_all (at + n) old (omega arith)))
    (λ (within : at + n ≤ length old).
    let none : rest ≡ [] = drop_all (min n (length old - at)) piece (omega arith) in
    ap (λ (l : List ℕ). drop (at + n) l) (grown ∙ ap (λ (l : List ℕ). old ++ l) none ∙ append-nil old))
    (cases_lt (length old) (at + n)) in
    over ∙ cc (written_in at piece old le)

-- ---- the place of a file

pub place_next : (file : File) (files : List File) (name : FileName) (b : Bool) → same_name file.name name ≡ b → file_place (file ∷ files) name ≡ own_or b 0 (suc (file_place files name))
place_next file files name b is = ap (λ (x : Bool). own_or x 0 (suc (file_place files name))) is

pub content_next : (file : File) (files : List File) (name : FileName) (default : List ℕ) (b : Bool) → same_name file.name name ≡ b
    → content (file ∷ files) name default ≡ own_or b file.bytes.items (content files name default)
content_next file files name default b is = ap (λ (x : Bool). own_or x file.bytes.items (content files name default)) is

pub content_push : (files : List File) (file : File) (name : FileName) (default : List ℕ) → content (files ++ file ∷ []) name default ≡ content files name (own_or (same_name file.name name) file.bytes.items default)
content_push [] file name default = refl
content_push (first ∷ files) file name default = ap (λ (l : List ℕ). own_or (same_name first.name name) first.bytes.items l) (content_push files file name default)

pub place_within : (files : List File) (name : FileName) → file_place files name ≤ length files
place_within [] name = omega arith
place_within (file ∷ files) name = step (same_name file.name name) (place_within files name)
  where
    step : (b : Bool) → file_place files name ≤ length files → own_or b 0 (suc (file_place files name)) ≤ suc (length files)
    step true le = omega arith
    step false le = omega arith

pub content_absent : (files : List File) (name : FileName) (default : List ℕ) → length files ≤ file_place files name → content files name default ≡ default
content_absent [] name default absent = refl
content_absent (file ∷ files) name default absent = step (same_name file.name name) absent (λ le. content_absent files name default le)
  where
    step : (b : Bool) → suc (length files) ≤ own_or b 0 (suc (file_place files name)) → (length files ≤ file_place files name → content files name default ≡ default)
        → own_or b file.bytes.items (content files name default) ≡ default
    step true le later = absurd (omega arith)
    step false le later = later (omega arith)

pub content_at : (files : List File) (name : FileName) (d : File) (default : List ℕ) → file_place files name < length files → content files name default ≡ (get_or files (file_place files name) d).bytes.items
content_at [] name d default there = absurd (omega arith)
content_at (file ∷ files) name d default there = step (same_name file.name name) there (λ lt. content_at files name d default lt)
  where
    step : (b : Bool) → own_or b 0 (suc (file_place files name)) < suc (length files) → (file_place files name < length files → content files name default ≡ (get_or files (file_place files name) d).bytes.items)
        → own_or b file.bytes.items (content files name default) ≡ (get_or (file ∷ files) (own_or b 0 (suc (file_place files name))) d).bytes.items
    step true lt later = refl
    step false lt later = later (omega arith)

pub place_push : (files : List File) (file : File) (name : FileName) → file.name ≡ name → length files ≤ file_place files name → file_place (files ++ file ∷ []) name ≡ length files
place_push [] file name named absent = place_next file [] name true (ap (λ (n : FileName). same_name n name) named ∙ same_name_self name)
place_push (first ∷ files) file name named absent = step (same_name first.name name) absent (λ le. place_push files file name named le)
  where
    step : (b : Bool) → suc (length files) ≤ own_or b 0 (suc (file_place files name)) → (length files ≤ file_place files name → file_place (files ++ file ∷ []) name ≡ length files)
        → own_or b 0 (suc (file_place (files ++ file ∷ []) name)) ≡ suc (length files)
    step true le later = absurd (omega arith)
    step false le later = ap suc (later (omega arith))

-- the file at its place has the name
pub named_at : (files : List File) (name : FileName) (d : File) → file_place files name < length files → (get_or files (file_place files name) d).name ≡ name
named_at [] name d there = absurd (omega arith)
named_at (file ∷ files) name d there = step (same_name file.name name) refl there (λ lt. named_at files name d lt)
  where
    step : (b : Bool) → same_name file.name name ≡ b → own_or b 0 (suc (file_place files name)) < suc (length files) → (file_place files name < length files → (get_or files (file_place files name) d).name ≡ name)
        → (get_or (file ∷ files) (own_or b 0 (suc (file_place files name))) d).name ≡ name
    step true is lt later = same_name_true file.name name is
    step false is lt later = later (omega arith)

-- another file of that name in its place
pub content_set : (files : List File) (name other : FileName) (file : File) → file.name ≡ name → file_place files name < length files
    → content (set files (file_place files name) file) other [] ≡ own_or (same_name name other) file.bytes.items (content files other [])
content_set [] name other file named there = absurd (omega arith)
content_set (first ∷ files) name other file named there = step (same_name first.name name) refl there (λ lt. content_set files name other file named lt)
  where
    hides : (b c : Bool) (x y z : List ℕ) → (b ≡ true → c ≡ true → ⊥) → own_or c x (own_or b y z) ≡ own_or b y (own_or c x z)
    hides true true x y z never = absurd (never refl refl)
    hides true false x y z never = refl
    hides false c x y z never = refl

    step : (b : Bool) → same_name first.name name ≡ b → own_or b 0 (suc (file_place files name)) < suc (length files)
        → (file_place files name < length files → content (set files (file_place files name) file) other [] ≡ own_or (same_name name other) file.bytes.items (content files other []))
        → content (set (first ∷ files) (own_or b 0 (suc (file_place files name))) file) other [] ≡ own_or (same_name name other) file.bytes.items (content (first ∷ files) other [])
    step true is lt later =
        let same : first.name ≡ name = same_name_true first.name name is in
        ap (λ (n : FileName). own_or (same_name n other) file.bytes.items (content files other [])) named
        ∙ twice (same_name name other) file.bytes.items first.bytes.items (content files other [])
        ∙ ap (λ (n : FileName). own_or (same_name name other) file.bytes.items (own_or (same_name n other) first.bytes.items (content files other []))) (sym same)
      where
        twice : (c : Bool) (x y z : List ℕ) → own_or c x z ≡ own_or c x (own_or c y z)
        twice true x y z = refl
        twice false x y z = refl
    step false is lt later =
        ap (λ (l : List ℕ). own_or (same_name first.name other) first.bytes.items l) (later (omega arith))
        ∙ hides (same_name name other) (same_name first.name other) first.bytes.items file.bytes.items (content files other [])
        (λ own firsts. differ is (same_name_true first.name other firsts ∙ sym (same_name_true name other own)))
      where
        differ : same_name first.name name ≡ false → first.name ≡ name → ⊥
        differ differs same = let itself : same_name first.name name ≡ true = ap (λ (n : FileName). same_name n name) same ∙ same_name_self name in absurd (cc)

-- ---- steps

pub rewrites_set : (old files : List File) (name : FileName) (file : File) (d : File) (step : List ℕ → List ℕ) → SameContent old files → file_place files name < length files
    → file.name ≡ (get_or files (file_place files name) d).name → file.bytes.items ≡ step (get_or files (file_place files name) d).bytes.items → Rewrites old (set files (file_place files name) file) name step
rewrites_set old files name file d step same there named is = record { each = λ other. each other (same_name name other) refl }
  where
    set_at_place : (other : FileName) → content (set files (file_place files name) file) other [] ≡ own_or (same_name name other) file.bytes.items (content files other [])
    set_at_place other = content_set files name other file (named ∙ named_at files name d there) there

    each : (other : FileName) (b : Bool) → same_name name other ≡ b → content (set files (file_place files name) file) other [] ≡ own_or b (step (content old other [])) (content old other [])
    each other true own =
        let here : (get_or files (file_place files name) d).bytes.items ≡ content old other [] =
        sym (content_at files name d [] there) ∙ same.each name ∙ ap (λ (n : FileName). content old n []) (same_name_true name other own) in
        set_at_place other ∙ ap (λ (x : Bool). own_or x file.bytes.items (content files other [])) own ∙ is ∙ ap step here
    each other false others =
        set_at_place other ∙ ap (λ (x : Bool). own_or x file.bytes.items (content files other [])) others ∙ same.each other

pub rewrites_same : (old new : List File) (name : FileName) (step : List ℕ → List ℕ) → ((l : List ℕ) → step l ≡ l) → SameContent old new → Rewrites old new name step
rewrites_same old new name step kept same = record { each = λ other. same.each other ∙ sym (both (same_name name other) (content old other [])) }
  where
    both : (b : Bool) (l : List ℕ) → own_or b (step l) l ≡ l
    both true l = kept l
    both false l = refl

-- another file of that name in the place where it was found
pub rewrites_at : (old files new : List File) (name : FileName) (i : ℕ) (file d : File) (step : List ℕ → List ℕ) → SameContent old files → i ≡ file_place files name → i < length files
    → d ≡ get_or files i d → file.name ≡ d.name → file.bytes.items ≡ step d.bytes.items → new ≡ set files i file → Rewrites old new name step
rewrites_at old files new name i file d step same at there here named is made =
    let there' : file_place files name < length files = omega arith in
    let here' : d ≡ get_or files (file_place files name) d = here ∙ ap (λ (n : ℕ). get_or files n d) at in
    let result : Rewrites old (set files (file_place files name) file) name step =
    rewrites_set old files name file d step same there' (named ∙ ap (λ (f : File). f.name) here') (is ∙ ap (λ (f : File). step f.bytes.items) here') in
    subst (λ (l : List File). Rewrites old l name step) (ap (λ (n : ℕ). set files n file) (sym at) ∙ sym made) result

-- a step that leads where the file is
pub same_rewritten : (old new : List File) (name : FileName) (step : List ℕ → List ℕ) → ((l : List ℕ) → step l ≡ l) → Rewrites old new name step → SameContent old new
same_rewritten old new name step kept made = record { each = λ other. made.each other ∙ both (same_name name other) (content old other []) }
  where
    both : (b : Bool) (l : List ℕ) → own_or b (step l) l ≡ l
    both true l = kept l
    both false l = refl

-- a file that is not there reads as an empty one
pub rewrites_absent : (files : List File) (name : FileName) (step : List ℕ → List ℕ) → step [] ≡ [] → length files ≤ file_place files name → Rewrites files files name step
rewrites_absent files name step none absent = record { each = λ other. each other (same_name name other) refl }
  where
    each : (other : FileName) (b : Bool) → same_name name other ≡ b → content files other [] ≡ own_or b (step (content files other [])) (content files other [])
    each other true own =
        let empty : content files other [] ≡ [] = ap (λ (n : FileName). content files n []) (sym (same_name_true name other own)) ∙ content_absent files name [] absent in
        empty ∙ sym none ∙ ap step (sym empty)
    each other false others = refl

-- an empty file more
pub same_pushed : (files new : List File) (file : File) → file.bytes.items ≡ [] → new ≡ files ++ file ∷ [] → SameContent files new
same_pushed files new file empty is = record { each = λ name. ap (λ (l : List File). content l name []) is ∙ content_push files file name [] ∙ ap (λ (l : List ℕ). content files name l) (both (same_name file.name name)) }
  where
    both : (b : Bool) → own_or b file.bytes.items [] ≡ []
    both true = empty
    both false = refl

pub take_none : (n : ℕ) → take {A = ℕ} n [] ≡ []
take_none zero = refl
take_none (suc n) = refl
