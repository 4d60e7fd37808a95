use Rattle.std.proofs.Common.{◌≡◌, ℕ, Bool, not, ◌==◌, length, refl, sym, ◌∙◌, arith}
use Rattle.std.proofs.lemmas.Bool.Decides.{nat_tests}
use Rattle.std.specs.Prelude.{nat_lt}
use Rattle.wal_log.specs.SegmentLaws.{end_of-ends}
use Rattle.wal_log.proofs.Walking.{begins, goes_on, damaged, ended}
use Rattle.wal_log.proofs.read.read_bytes.Goals as goal

any_byte : (n : ℕ) (empty : Bool) → empty ≡ (n == 0) → not empty ≡ nat_lt 0 n
any_byte n empty is = grind (arith, nat_tests)

pub loop-open-init : goal.loop-open-init
loop-open-init c = begins c.args.before _ _ c.new-records.ensures

pub returns-in_default-2 : goal.returns-in_default-2
returns-in_default-2 c = record {
  file_is = refl;
  place_is = damaged c.args.before c.loop-open.place c.loop-open.last c.loop-open.records c.in-Some.open.body.now c.args.bytes.now _ c.loop-open.invariant c.in-Some.ensures.counts
      (sym c.in_default-2.is ∙ c.in_ok-record.ensures);
}

pub loop-open-preserved : goal.loop-open-preserved
loop-open-preserved c =
    goes_on c.args.before c.loop-open.place c.in-Some.open.next c.loop-open.last c.loop-open.records c.push.new.self c.in-Some-2.record c.in-Some.open.body.now c.args.bytes.now c.loop-open.invariant c.in-Some.ensures.stands c.in-Some.ensures.within
    (sym c.in-Some-2.is ∙ c.in_ok-record.ensures)
    c.in_ok-push.ensures.ok

pub returns : goal.returns
returns c =
    let done = ended c.args.before c.loop-open.place c.loop-open.last c.loop-open.records c.args.bytes.now c.loop-open.invariant c.in_default.ensures.none in
    record {
      records = done.read;
      last = c.loop-open.invariant.last_is;
      end = end_of-ends c.loop-open.place _ c.args.bytes.now done.ends;
      ends = done.ends;
      any = any_byte (length c.args.bytes.now) c.is_empty.result c.is_empty.ensures;
    }
