-- How a buffer fills with a file's bytes.
use Rattle.std.proofs.Common.{◌≡◌, ℕ, ◌+◌, ◌≤◌, min, List, ◌++◌, length, take, drop, Option, Some, IfSome, sym, ◌∙◌, ap, arith, length-append}
use Rattle.std.proofs.lemmas.List.{length-take-le, take-take, take-append-le}
use Rattle.std.proofs.Math.Seq.{take-append-add, take-add, take-length}
use Rattle.kv_base.specs.declared.name.FileName.{FileName}
use Rattle.kv_outside.specs.Disk.{Disk, NothingNew, CrashLeaves, IsDurable}
use Rattle.kv_outside.specs.Files.{ReadsFrom}
use Rattle.kv_outside.specs.ToldLaws.{told_given}
use Rattle.kv_outside.specs.RunLaws.{run_nothing, at_end}
use Rattle.kv_outside.specs.RunLaws.{nothing_then}

-- so many bytes were read into the buffer, from the file's start
pub record HasRead (done : ℕ) (buffer : List ℕ) (held : Option (List ℕ)) (old new : Disk) (before now : ℕ) : Type 0 where
  pub within : done ≤ length buffer
  pub bytes : IfSome held (λ file. (done ≤ length file) × (take done buffer ≡ take done file))
  pub disk : NothingNew old new
  pub later : before ≤ now

-- a read more
pub read_more : (done n : ℕ) (buffer front rest out : List ℕ) (held : Option (List ℕ)) (old mid new : Disk) (before then now : ℕ) → HasRead done buffer held old mid before then
    → front ≡ take done buffer → rest ≡ drop done buffer → length out ≡ length rest → n ≤ length out → IfSome held (λ file. ReadsFrom done file rest out n)
    → NothingNew mid new → then ≤ now → HasRead (done + n) (front ++ out) held old new before now
read_more done n buffer front rest out held old mid new before then now has is_front is_rest same room reads call later =
    let long : length front ≡ done = ap length is_front ∙ length-take-le done buffer has.within in
    record {
      within = omega (arith, length-append front out, long, room);
      bytes = more held has.bytes reads;
      disk = nothing_then old mid new has.disk call;
      later = omega (arith, has.later, later);
    }
  where
    joined : (file : List ℕ) → length front ≡ done → take done buffer ≡ take done file → done ≤ length file → ReadsFrom done file rest out n → take (done + n) (front ++ out) ≡ take (done + n) file
    joined file long was within read =
        let first : take (done + n) (front ++ out) ≡ front ++ take n out = ap (λ (k : ℕ). take (k + n) (front ++ out)) (sym long) ∙ take-append-add front out n in
        first ∙ ap (λ (l : List ℕ). l ++ take n out) (is_front ∙ was) ∙ ap (λ (l : List ℕ). take done file ++ l) read.taken ∙ sym (take-add done n file)

    more : (o : Option (List ℕ)) → IfSome o (λ file. (done ≤ length file) × (take done buffer ≡ take done file)) → IfSome o (λ file. ReadsFrom done file rest out n)
        → IfSome o (λ file. (done + n ≤ length file) × (take (done + n) (front ++ out) ≡ take (done + n) file))
    more o was read = elim o as (λ (v : Option (List ℕ)). IfSome v (λ file. (done ≤ length file) × (take done buffer ≡ take done file)) → IfSome v (λ file. ReadsFrom done file rest out n)
        → IfSome v (λ file. (done + n ≤ length file) × (take (done + n) (front ++ out) ≡ take (done + n) file))) [
          | Some file ↦ λ was read. (omega (arith, was.0, read.count), joined file (ap length is_front ∙ length-take-le done buffer has.within) was.1 was.0 read)
          | _ ↦ λ was read. tt
        ] was read

-- a buffer as long as the file was, filled
pub whole_read : (n count : ℕ) (buffer new found : List ℕ) (held : Option (List ℕ)) → IfSome held (λ file. n ≡ length file) → length buffer ≡ n
    → IfSome held (λ file. (count ≡ min (length buffer) (length file)) × (take count new ≡ take count file)) → found ≡ take count new → IfSome held (λ file. found ≡ file)
whole_read n count buffer new found held long sized filled is = elim held as (λ (v : Option (List ℕ)). IfSome v (λ file. n ≡ length file)
    → IfSome v (λ file. (count ≡ min (length buffer) (length file)) × (take count new ≡ take count file)) → IfSome v (λ file. found ≡ file)) [
      | Some file ↦ λ long filled.
          let all : count ≡ length file = omega (arith, long, sized, filled.0) in
          is ∙ filled.1 ∙ ap (λ (k : ℕ). take k file) all ∙ take-length file
      | _ ↦ λ long filled. tt
    ] long filled

-- a crash leaves what was read
pub leaves_read : (disk : Disk) (name : FileName) (held : Option (List ℕ)) (found : List ℕ) → IfSome held (λ file. found ≡ file) → CrashLeaves disk name (λ c. held ≡ Some c) → CrashLeaves disk name (λ c. c ≡ found)
leaves_read disk name held found told leaves = record { each = λ c image. sym (told_given (λ file. found ≡ file) held c (leaves.each c image) told) }

-- what was durable is so still
pub still_durable : (name : FileName) (old new : Disk) (held : Option (List ℕ)) → IsDurable old name held → NothingNew old new → CrashLeaves new name (λ c. held ≡ Some c)
still_durable name old new held durable call = at_end name old new (λ c. held ≡ Some c) (run_nothing name old new (λ c. held ≡ Some c) call (record { each = λ c image. durable.only c image }))

-- the buffer's front, however the buffer was borrowed
pub front_of : (count all : ℕ) (new rest : List ℕ) → count ≤ length new → count ≤ all → take count (take all (new ++ rest)) ≡ take count new
front_of count all new rest within below = take-take count all (new ++ rest) below ∙ take-append-le count new rest within
