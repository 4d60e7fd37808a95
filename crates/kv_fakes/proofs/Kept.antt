-- The record and what it made of the files go together, and so a crash can be made from the record.
use Rattle.std.proofs.Common.{◌≡◌, ℕ, ◌+◌, ◌<◌, ◌≤◌, suc, Bool, List, [], ◌∷◌, ◌++◌, length, take, drop, get_or, map, refl, sym, ◌∙◌, ap, arith}
use Rattle.std.proofs.Math.Seq.{drop-cons}
use Rattle.std.proofs.lemmas.List.{length-take-le}
use Rattle.kv_base.specs.declared.name.FileName.{FileName}
use Rattle.kv_base.specs.Name.{same_name}
use Rattle.kv_fakes.specs.declared.file.File.{File}
use Rattle.kv_fakes.specs.declared.past.Change.{Change}
use Rattle.kv_fakes.specs.declared.past.ChangeKind.{ChangeKind}
use Rattle.kv_fakes.specs.declared.past.ChangeKind.TheVariants.{Placed}
use Rattle.kv_fakes.specs.Past.{after_change, own_or, with_change, read_after}
use Rattle.kv_fakes.specs.Content.{content, SameContent, Rewrites, Presents}
use Rattle.kv_fakes.specs.Crash.{draw, reached, sound, spoilt, torn_bytes, is_settled, left_of, left_after}
use Rattle.kv_fakes.proofs.Files.{rewrites_same, content_push}
use Rattle.kv_fakes.proofs.Pushed.{read-push}

pub presents_added : (files new_files : List File) (changes new : List Change) (name : FileName) (kind : ChangeKind) → Presents files changes → Rewrites files new_files name (after_change kind) → new ≡ with_change changes name kind → Presents new_files new
presents_added files new_files changes new name kind was made is = record {
  each = λ other.
      made.each other
      ∙ ap (λ (l : List ℕ). own_or (same_name name other) (after_change kind l) l) (was.each other)
      ∙ sym (ap (λ (l : List Change). read_after l other []) is ∙ read-push changes (record { name = name; kind = kind }) other []);
}

pub presents_noted : (files : List File) (changes new : List Change) (name : FileName) (kind : ChangeKind) → Presents files changes → ((old : List ℕ) → after_change kind old ≡ old) → new ≡ with_change changes name kind → Presents files new
presents_noted files changes new name kind was kept is =
    presents_added files files changes new name kind was (rewrites_same files files name (after_change kind) kept (record { each = λ other. refl })) is

-- nothing was changed after all
pub presents_still : (files new_files : List File) (changes new : List Change) → Presents files changes → SameContent files new_files → new ≡ changes → Presents new_files new
presents_still files new_files changes new was same is = record { each = λ name. same.each name ∙ was.each name ∙ ap (λ (l : List Change). read_after l name []) (sym is) }

-- ---- a torn write

pub torn_is : (number count : ℕ) (bytes some front rest torn : List ℕ) → count ≡ reached number (length bytes) → count ≤ length bytes → some ≡ take count bytes
    → front ≡ take (sound number count) some → rest ≡ drop (sound number count) some → torn ≡ front ++ map (spoilt number) rest → torn ≡ torn_bytes number bytes
unfolding torn_bytes
torn_is number count bytes some front rest torn is within first front_is rest_is torn_made =
    let whole : List ℕ = take (reached number (length bytes)) bytes in
    let same : some ≡ whole = first ∙ ap (λ (n : ℕ). take n bytes) is in
    let long : count ≡ length whole = sym (ap length first ∙ length-take-le count bytes within) ∙ ap length same in
    torn_made ∙ ap (λ (l : List ℕ). l ++ map (spoilt number) rest) front_is ∙ ap (λ (l : List ℕ). take (sound number count) some ++ map (spoilt number) l) rest_is
    ∙ ap (λ (l : List ℕ). take (sound number count) l ++ map (spoilt number) (drop (sound number count) l)) same
    ∙ ap (λ (n : ℕ). take (sound number n) whole ++ map (spoilt number) (drop (sound number n) whole)) long

-- ---- a crash, change by change

pub drop_at : (changes : List Change) (i : ℕ) (change : Change) → i < length changes → change ≡ get_or changes i change → drop i changes ≡ change ∷ drop (i + 1) changes
drop_at changes i change within is =
    let next : i + 1 ≡ suc i = omega arith in
    drop-cons changes i change within ∙ ap (λ (x : Change). x ∷ drop (suc i) changes) (sym is) ∙ ap (λ (n : ℕ). change ∷ drop n changes) (sym next)

pub leave_step : (changes later : List Change) (at : ℕ) (change : Change) (number next choice : ℕ) (settled : Bool) (files new : List File) → drop at changes ≡ change ∷ later
    → settled ≡ is_settled later change.name → next ≡ draw number → Rewrites files new change.name (left_of settled next change.kind) → (name : FileName)
    → left_after (drop at changes) number name (content files name []) ≡ left_after changes choice name [] → left_after later next name (content new name []) ≡ left_after changes choice name []
leave_step changes later at change number next choice settled files new split settles draws made name so_far =
    let old = content files name [] in
    let same = same_name change.name name in
    ap (left_after later next name) (made.each name)
    ∙ ap (λ (b : Bool). left_after later next name (own_or same (left_of b next change.kind old) old)) settles
    ∙ ap (λ (n : ℕ). left_after later n name (own_or same (left_of (is_settled later change.name) n change.kind old) old)) draws
    ∙ sym (ap (λ (l : List Change). left_after l number name old) split)
    ∙ so_far

-- the last of the files that a crash leaves is put there first
pub placed_step : (files rest : List File) (file : File) (record_now new : List Change) (name : FileName) (left : List ℕ) → files ≡ rest ++ file ∷ [] → new ≡ with_change record_now file.name (Placed file.bytes.items)
    → content files name (read_after record_now name []) ≡ left → content rest name (read_after new name []) ≡ left
placed_step files rest file record_now new name left popped is so_far =
    ap (λ (l : List Change). content rest name (read_after l name [])) is
    ∙ ap (λ (l : List ℕ). content rest name l) (read-push record_now (record { name = file.name; kind = Placed file.bytes.items }) name [])
    ∙ sym (ap (λ (l : List File). content l name (read_after record_now name [])) popped ∙ content_push rest file name (read_after record_now name []))
    ∙ so_far
