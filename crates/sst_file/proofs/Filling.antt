-- How a buffer fills with a sealed file's bytes.
use Rattle.std.proofs.Common.{◌≡◌, inl, inr, ℕ, ◌+◌, ◌-◌, ◌≤◌, min, List, ◌++◌, length, take, drop, Option, Some, IfSome, sym, ◌∙◌, ap, arith, length-append, length-drop}
use Rattle.std.proofs.lemmas.List.{length-take-le, drop-drop, take_all}
use Rattle.std.proofs.lemmas.Bool.{cases_lt}
use Rattle.std.proofs.Math.Seq.{take-append-add, take-add}
use Rattle.kv_outside.specs.Disk.{Disk, NothingNew}
use Rattle.kv_outside.specs.Files.{ReadsFrom}
use Rattle.kv_outside.specs.RunLaws.{nothing_then}

-- so many bytes were read into the buffer, from a place on
pub record HasRead (place done : ℕ) (buffer : List ℕ) (held : Option (List ℕ)) (old new : Disk) (before now : ℕ) : Type 0 where
  pub within : done ≤ length buffer
  pub bytes : IfSome held (λ file. (done ≤ length file - place) × (take done buffer ≡ take done (drop place file)))
  pub disk : NothingNew old new
  pub later : before ≤ now

-- a read more
pub read_more : (place done n : ℕ) (buffer front rest out : List ℕ) (held : Option (List ℕ)) (old mid new : Disk) (before then now : ℕ) → HasRead place done buffer held old mid before then
    → front ≡ take done buffer → rest ≡ drop done buffer → length out ≡ length rest → n ≤ length out → IfSome held (λ file. ReadsFrom (place + done) file rest out n)
    → NothingNew mid new → then ≤ now → HasRead place (done + n) (front ++ out) held old new before now
read_more place done n buffer front rest out held old mid new before then now has is_front is_rest same room reads call later =
    let long : length front ≡ done = ap length is_front ∙ length-take-le done buffer has.within in
    record {
      within = omega (arith, length-append front out, long, room);
      bytes = more held has.bytes reads;
      disk = nothing_then old mid new has.disk call;
      later = omega (arith, has.later, later);
    }
  where
    joined : (file : List ℕ) → length front ≡ done → take done buffer ≡ take done (drop place file) → ReadsFrom (place + done) file rest out n → take (done + n) (front ++ out) ≡ take (done + n) (drop place file)
    joined file long was read =
        let first : take (done + n) (front ++ out) ≡ front ++ take n out = ap (λ (k : ℕ). take (k + n) (front ++ out)) (sym long) ∙ take-append-add front out n in
        let moved : drop (place + done) file ≡ drop done (drop place file) = sym (drop-drop done place file) in
        first ∙ ap (λ (l : List ℕ). l ++ take n out) (is_front ∙ was) ∙ ap (λ (l : List ℕ). take done (drop place file) ++ l) (read.taken ∙ ap (λ (l : List ℕ). take n l) moved) ∙ sym (take-add done n (drop place file))

    more : (o : Option (List ℕ)) → IfSome o (λ file. (done ≤ length file - place) × (take done buffer ≡ take done (drop place file))) → IfSome o (λ file. ReadsFrom (place + done) file rest out n)
        → IfSome o (λ file. (done + n ≤ length file - place) × (take (done + n) (front ++ out) ≡ take (done + n) (drop place file)))
    more o was read = elim o as (λ (v : Option (List ℕ)). IfSome v (λ file. (done ≤ length file - place) × (take done buffer ≡ take done (drop place file))) → IfSome v (λ file. ReadsFrom (place + done) file rest out n)
        → IfSome v (λ file. (done + n ≤ length file - place) × (take (done + n) (front ++ out) ≡ take (done + n) (drop place file)))) [
          | Some file ↦ λ was read. (omega (arith, was.0, read.count), joined file (ap length is_front ∙ length-take-le done buffer has.within) was.1 read)
          | _ ↦ λ was read. tt
        ] was read

-- what was read is what stands there
pub slice_read : (place n count : ℕ) (buffer new found : List ℕ) (held : Option (List ℕ)) → length buffer ≡ n
    → IfSome held (λ file. (count ≡ min (length buffer) (length file - place)) × (take count new ≡ take count (drop place file))) → found ≡ take count new → IfSome held (λ file. found ≡ take n (drop place file))
slice_read place n count buffer new found held sized filled is = elim held as (λ (v : Option (List ℕ)).
    IfSome v (λ file. (count ≡ min (length buffer) (length file - place)) × (take count new ≡ take count (drop place file))) → IfSome v (λ file. found ≡ take n (drop place file))) [
      | Some file ↦ λ filled. is ∙ filled.1 ∙ as_many file filled.0
      | _ ↦ λ filled. tt
    ] filled
  where
    as_many : (file : List ℕ) → count ≡ min (length buffer) (length file - place) → take count (drop place file) ≡ take n (drop place file)
    as_many file counted =
        let long = length-drop place file in
        elim (cases_lt (length file - place) n) [
          | inl short ↦ take_all count (drop place file) (omega (arith, counted, sized, short, long)) ∙ sym (take_all n (drop place file) (omega (arith, sized, short, long)))
          | inr enough ↦ ap (λ (k : ℕ). take k (drop place file)) (omega (arith, counted, sized, enough))
        ]
