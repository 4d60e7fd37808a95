-- A table's file goes on from row to row, and ends as the format gives it.
use Rattle.std.proofs.Common.{◌≡◌, ℕ, List, [], ◌∷◌, ◌++◌, refl, sym, ap, subst, ◌∙◌, Option, Some, None, IfSome, append_assoc, append-nil}
use Rattle.std.specs.Prelude.{OnErr, Result, Ok, Err}
use Rattle.kv_base.specs.Map.{Bytes}
use Rattle.kv_base.specs.declared.row.Row.{Row}
use Rattle.kv_base.specs.declared.name.FileName.{FileName}
use Rattle.kv_outside.specs.Disk.{Disk, Agrees, CrashLeaves, IsDurable, NothingNew, Touches}
use Rattle.kv_outside.specs.Files.{Goes}
use Rattle.kv_outside.specs.RunLaws.{agrees_still, at_end, run_nothing, run_then}
use Rattle.kv_outside.specs.ToldLaws.{goes_keeps}
use Rattle.sst_parts.specs.declared.index.Spot.{Spot}
use Rattle.sst_parts.specs.Blocks.{filled, blocks_text}
use Rattle.sst_parts.specs.Tables.{table_head, table_text}
use Rattle.sst_writer.specs.Building.{IsMore}
use Rattle.sst_writer.specs.Ending.{IsFinished}
use Rattle.sst_writer.specs.Writing.{Longer, LongerUpTo, AreBlocksOf, HoldsBlocks}

-- ---- a row more

more_wait : (rows : List Row) (row : Row) (bytes waiting more held : Bytes) (written : ℕ) → IsMore rows row bytes → more ≡ waiting ++ bytes → AreBlocksOf rows written waiting held → AreBlocksOf (rows ++ row ∷ []) written more held
more_wait rows row bytes waiting more held written is joined was = record {
  place = was.place;
  whole =
      ap (λ (b : Bytes). held ++ b) joined
      ∙ sym (append_assoc held waiting bytes)
      ∙ ap (λ (b : Bytes). b ++ bytes) was.whole
      ∙ append_assoc table_head (blocks_text (filled rows).closed) bytes
      ∙ ap (λ (b : Bytes). table_head ++ b) (sym is.is);
}

pub waits : (rows : List Row) (row : Row) (bytes waiting more : Bytes) (written : ℕ) (held : Option Bytes) → IsMore rows row bytes → more ≡ waiting ++ bytes → HoldsBlocks rows written waiting held → HoldsBlocks (rows ++ row ∷ []) written more held
waits rows row bytes waiting more written None is joined was = tt
waits rows row bytes waiting more written (Some c) is joined was = more_wait rows row bytes waiting more c written is joined was

-- ---- what waits is written

pub is_written : (rows : List Row) (waiting left : Bytes) (written end : ℕ) (old new : Option Bytes) → left ≡ [] → Goes (LongerUpTo waiting end) old new → HoldsBlocks rows written waiting old → HoldsBlocks rows end left new
is_written rows waiting left written end old new none goes was = goes_keeps (LongerUpTo waiting end) (AreBlocksOf rows written waiting) (AreBlocksOf rows end left)
    (λ d c was step. record {
      place = step.1;
      whole = ap (λ (b : Bytes). c ++ b) none ∙ append-nil c ∙ step.0 ∙ was.whole;
    }) old new goes was

-- ---- the whole file

pub whole_file : (rows : List Row) (tail waiting bytes : Bytes) (spots : List Spot) (bits : Bytes) (size written : ℕ) (old new : Option Bytes) → IsFinished rows tail spots bits size → bytes ≡ waiting ++ tail → Goes (Longer bytes) old new → HoldsBlocks rows written waiting old
    → IfSome new (λ c. c ≡ table_text rows)
whole_file rows tail waiting bytes spots bits size written old new done joined goes was = goes_keeps (Longer bytes) (AreBlocksOf rows written waiting) (λ c. c ≡ table_text rows)
    (λ d c was step.
    step
    ∙ ap (λ (b : Bytes). d ++ b) joined
    ∙ sym (append_assoc d waiting tail)
    ∙ ap (λ (b : Bytes). b ++ tail) was.whole
    ∙ append_assoc table_head (blocks_text (filled rows).closed) tail
    ∙ done.whole) old new goes was

-- ---- no other file is changed

pub anything : (disk : Disk) (name : FileName) → CrashLeaves disk name (λ c. Unit {0})
anything disk name = record { each = λ c image. tt }

pub nothing_touched : (name : FileName) (old new : Disk) → NothingNew old new → Touches name old new (λ c. Unit {0})
nothing_touched name old new nothing = run_nothing name old new (λ c. Unit {0}) nothing (anything old name)

pub touched_then : (name : FileName) (old mid new : Disk) → Touches name old mid (λ c. Unit {0}) → Touches name mid new (λ c. Unit {0}) → Touches name old new (λ c. Unit {0})
touched_then name old mid new first second = run_then name old mid new (λ c. Unit {0}) first second

-- ---- a file that is closed is durable

stays_durable : (name : FileName) (old new : Disk) (held now : Option Bytes) → NothingNew old new → now ≡ held → IsDurable old name held → IsDurable new name now
stays_durable name old new held now call same durable =
    let left = at_end name old new (λ c. held ≡ Some c) (run_nothing name old new (λ c. held ≡ Some c) call (record { each = durable.only })) in
    record { only = λ c image. same ∙ left.each c image }

pub closed_durable : (name after : FileName) (first mid synced last : Disk) (before held kept sealed : Option Bytes) → after ≡ name → (Agrees first name before → Agrees mid name held) → (Agrees mid after held → IsDurable synced after kept) → NothingNew synced last → sealed ≡ kept
    → Agrees first name before → IsDurable last name sealed
closed_durable name after first mid synced last before held kept sealed same agrees durable call is was =
    let named : Agrees mid name held → IsDurable synced name kept = subst (λ (n : FileName). Agrees mid n held → IsDurable synced n kept) same durable in
    stays_durable name synced last kept sealed call is (named (agrees was))

-- ---- a file without rows

pub head_waits : (waiting : Bytes) → waiting ≡ table_head → AreBlocksOf [] 0 waiting []
unfolding filled
head_waits waiting is = record { place = refl; whole = is }

-- ---- a call that changes nothing, and one on the file

pub touched_on : (name after : FileName) (first mid step new : Disk) → after ≡ name → Touches name first mid (λ c. Unit {0}) → NothingNew mid step → Touches after step new (λ c. Unit {0}) → Touches name first new (λ c. Unit {0})
touched_on name after first mid step new same run call last =
    let named = subst (λ (n : FileName). Touches n step new (λ c. Unit {0})) same last in
    touched_then name first mid new run (touched_then name mid step new (nothing_touched name mid step call) named)

pub agrees_on : (name after : FileName) (first mid step new : Disk) (a b d : Option Bytes) → after ≡ name → (Agrees first name a → Agrees mid name b) → NothingNew mid step → (Agrees step after b → Agrees new after d) → Agrees first name a → Agrees new name d
agrees_on name after first mid step new a b d same run call last was =
    let named = subst (λ (n : FileName). Agrees step n b → Agrees new n d) same last in
    named (agrees_still name mid step b b (call.reads name) refl (run was))

pub on_err : {T E : Type 0} (r : Result T E) (P : Type 0) → P → OnErr r P
on_err (Ok x) P p = tt
on_err (Err e) P p = p
