-- What is told of a table that was opened.
use Rattle.std.proofs.Common.{◌≡◌, ℕ, List, refl, sym, ap, subst, ◌∙◌, Option, Some, None, IfSome, Err}
use Rattle.std.specs.Result.{result_ok}
use Rattle.kv_base.specs.Map.{Bytes}
use Rattle.kv_base.specs.declared.name.FileName.{FileName}
use Rattle.kv_base.specs.declared.name.TableId.{TableId}
use Rattle.kv_base.specs.declared.fault.StoreFault.{StoreFault}
use Rattle.kv_base.specs.declared.fault.StoreFault.TheVariants.{Failed, Damaged, NoMem}
use Rattle.kv_outside.specs.Disk.{Disk, NothingNew, CrashLeaves, IsDurable}
use Rattle.kv_outside.specs.RunLaws.{run_nothing, at_end}
use Rattle.kv_base.specs.declared.row.Row.{Row}
use Rattle.sst_parts.specs.declared.index.Spot.{Spot}
use Rattle.kv_base.specs.declared.table.TableDesc.{TableDesc}
use Rattle.sst_grammar.specs.Judging.{judged_table}
use Rattle.sst_file.specs.Opening.{IsBlame}
use Rattle.sst_file.specs.States.{StandsForTable, rows_of_table, HasRows}

pub rows_found : (spots : List Spot) (bits : Bytes) (desc : TableDesc) (held : Option Bytes) (bytes : Bytes) (rows : Option (List Row)) → held ≡ Some bytes → StandsForTable spots bits desc held → rows_of_table held ≡ rows → HasRows bytes rows
rows_found spots bits desc held bytes rows is stands told =
    let parts = subst (StandsForTable spots bits desc) is stands in
    record { are = parts.rows; judged_is = parts.judged_is; told = sym told ∙ ap rows_of_table is ∙ ap result_ok parts.judged_is }

-- what the disk tells of the file, the file tells too
pub blame_told : (before now : ℕ) (id : TableId) (held reads : Option Bytes) (fault : StoreFault) → ((bytes : Bytes) → reads ≡ Some bytes → held ≡ Some bytes) → IsBlame before now id held judged_table fault → IsBlame before now id reads judged_table fault
blame_told before now id held reads Failed told blame = blame
blame_told before now id held reads NoMem told blame = blame
blame_told before now id held None (Damaged file place) told blame = (blame.0, tt)
blame_told before now id held (Some bytes) (Damaged file place) told blame = (blame.0, subst (λ (o : Option Bytes). IfSome o (λ b. judged_table b ≡ Err place)) (told bytes refl) blame.1)

pub still_left : (name : FileName) (mid new : Disk) (held : Option Bytes) (rows : Option (List Row)) → IsDurable mid name held → NothingNew mid new → rows_of_table held ≡ rows → CrashLeaves new name (λ c. rows_of_table (Some c) ≡ rows)
still_left name mid new held rows durable call told = record {
  each = λ c image. ap rows_of_table (sym ((at_end name mid new (λ b. held ≡ Some b) (run_nothing name mid new (λ b. held ≡ Some b) call (record { each = λ b i. durable.only b i }))).each c image)) ∙ told;
}
