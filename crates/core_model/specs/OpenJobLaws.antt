-- In a legal history a job that its caller began, and did not end, is the open one.
use Rattle.std.proofs.Common.{◌≡◌, ℕ, List, [], ◌∷◌, refl, sym, ap, subst, ◌∙◌, Bool, true, false, cond, arith}
use Rattle.std.proofs.lemmas.Bool.Decides.{nat_tests}
use Rattle.std.specs.Prelude.{◌==◌, Option, Some, None, IsNone, IfSome}
use Rattle.kv_base.specs.InversionLaws.{same_some, number_is}
use Rattle.redis_model.specs.declared.history.Step.{Step}
use Rattle.redis_model.specs.declared.history.Step.TheVariants.{Tick, Call, Exec, PinNow, PinnedRead, PinnedRefused, Unpin, Job}
use Rattle.redis_model.specs.declared.history.JobKind.TheVariants as kind
use Rattle.redis_model.specs.declared.history.JobMark.{JobMark}
use Rattle.redis_model.specs.declared.history.JobMark.TheVariants.{Begun, Done, Dropped, Idle, Met}
use Rattle.redis_model.specs.Machine.{State, step}
use Rattle.redis_model.specs.Legal.{Jobs, MayMark, MayStep, IsLegal, IsLegalFrom}
use Rattle.core_model.specs.Places.{OpenJob, marked, flush_after, compact_after, open_flush, open_compact}
use Rattle.redis_model.specs.declared.history.Place.{Place}
use Rattle.redis_model.specs.declared.history.Note.{Note}
use Rattle.redis_model.specs.Places.{steps_of}
use Rattle.core_model.specs.OpenJobs.{begun_after, begun_flush_after, begun_flush, begun_compact_after, begun_compact}
use Rattle.core_model.specs.PlacesLaws.{caller_of, callers, callers_by}

-- a job begins where none is open
taken : (o : Option OpenJob) (job : OpenJob) → o ≡ Some job → IsNone (caller_of o) → ⊥
taken None job is none = cc
taken (Some x) job is none = cc

-- and its own caller ends it
owner : (o : Option OpenJob) (job : OpenJob) (other : ℕ) → o ≡ Some job → caller_of o ≡ Some other → other ≡ job.caller
owner o job other is own = same_some other job.caller (sym own ∙ ap caller_of is)

another : (other caller : ℕ) → (other == caller) ≡ false → other ≡ caller → ⊥
another other caller differ is = let same : (other == caller) ≡ true = grind (arith, nat_tests) in cc

-- ---- flushes

module _ (caller : ℕ) where
  -- it is open
  abbrev IsOpenFlushOf : Option Note → Option OpenJob → Type 0
  IsOpenFlushOf b o = IfSome b (λ note. o ≡ Some (record { caller = caller; note = note }))

  flush_marked : (b : Option Note) (o : Option OpenJob) (other : ℕ) (sign : JobMark) (note : Note) (t : Bool) → (other == caller) ≡ t → MayMark (caller_of o) other kind.Flush sign → IsOpenFlushOf b o
      → IsOpenFlushOf (cond t (begun_after b sign note) b) (marked o other sign note)
  flush_marked b o other Begun note true is may h = ap (λ (n : ℕ). let job : OpenJob = record { caller = n; note = note } in Some job) (number_is other caller is)
  flush_marked b o other Done note true is may h = tt
  flush_marked b o other Dropped note true is may h = tt
  flush_marked b o other Idle note true is may h = tt
  flush_marked b o other Met note true is may h = h
  flush_marked None o other Begun note false is may h = tt
  flush_marked (Some n) o other Begun note false is may h = absurd (taken o (record { caller = caller; note = n }) h may)
  flush_marked None o other Done note false is may h = tt
  flush_marked (Some n) o other Done note false is may h = absurd (another other caller is (owner o (record { caller = caller; note = n }) other h may))
  flush_marked None o other Dropped note false is may h = tt
  flush_marked (Some n) o other Dropped note false is may h = absurd (another other caller is (owner o (record { caller = caller; note = n }) other h may))
  flush_marked b o other Idle note false is may h = h
  flush_marked b o other Met note false is may h = h

  flush_step : (b : Option Note) (o c : Option OpenJob) (s : State) (what : Step) (note : Note) → MayStep s (callers o c) what → IsOpenFlushOf b o → IsOpenFlushOf (begun_flush_after caller b what note) (flush_after o what note)
  flush_step b o c s (Tick now x) note may h = h
  flush_step b o c s (Call now x cmd) note may h = h
  flush_step b o c s (Exec now x cs) note may h = h
  flush_step b o c s (PinNow now x) note may h = h
  flush_step b o c s (PinnedRead now x cmd) note may h = h
  flush_step b o c s (PinnedRefused now x cs) note may h = h
  flush_step b o c s (Unpin now x) note may h = h
  flush_step b o c s (Job other kind.Flush sign) note may h = flush_marked b o other sign note (other == caller) refl may h
  flush_step b o c s (Job other kind.Compact sign) note may h = h
  flush_step b o c s (Job other kind.Counts sign) note may h = h

  flush_run : (b : Option Note) (o c : Option OpenJob) (s : State) (seen : List Place) → IsLegalFrom s (callers o c) (steps_of seen) → IsOpenFlushOf b o → IsOpenFlushOf (begun_flush caller b seen) (open_flush o seen)
  flush_run b o c s [] legal h = h
  flush_run b o c s (p ∷ ps) legal h =
      flush_run (begun_flush_after caller b p.what p.note) (flush_after o p.what p.note) (compact_after c p.what p.note) (step s p.what).1 ps
      (subst (λ (j : Jobs). IsLegalFrom (step s p.what).1 j (steps_of ps)) (callers_by o c p.what p.note) legal.1) (flush_step b o c s p.what p.note legal.0 h)

  -- in a legal history a flush that the caller began, and did not end, is the open one
  pub begun_flush_is_open : (s : State) (seen : List Place) (note : Note) → IsLegal s (steps_of seen) → begun_flush caller None seen ≡ Some note → open_flush None seen ≡ Some (record { caller = caller; note = note })
  begun_flush_is_open s seen note legal begun = subst (λ (b : Option Note). IfSome b (λ n. open_flush None seen ≡ Some (record { caller = caller; note = n }))) begun (flush_run None None None s seen legal tt)

-- ---- compactions

module _ (caller : ℕ) where
  -- it is open
  abbrev IsOpenCompactOf : Option Note → Option OpenJob → Type 0
  IsOpenCompactOf b o = IfSome b (λ note. o ≡ Some (record { caller = caller; note = note }))

  compact_marked : (b : Option Note) (o : Option OpenJob) (other : ℕ) (sign : JobMark) (note : Note) (t : Bool) → (other == caller) ≡ t → MayMark (caller_of o) other kind.Compact sign → IsOpenCompactOf b o
      → IsOpenCompactOf (cond t (begun_after b sign note) b) (marked o other sign note)
  compact_marked b o other Begun note true is may h = ap (λ (n : ℕ). let job : OpenJob = record { caller = n; note = note } in Some job) (number_is other caller is)
  compact_marked b o other Done note true is may h = tt
  compact_marked b o other Dropped note true is may h = tt
  compact_marked b o other Idle note true is may h = tt
  compact_marked b o other Met note true is may h = h
  compact_marked None o other Begun note false is may h = tt
  compact_marked (Some n) o other Begun note false is may h = absurd (taken o (record { caller = caller; note = n }) h may)
  compact_marked None o other Done note false is may h = tt
  compact_marked (Some n) o other Done note false is may h = absurd (another other caller is (owner o (record { caller = caller; note = n }) other h may))
  compact_marked None o other Dropped note false is may h = tt
  compact_marked (Some n) o other Dropped note false is may h = absurd (another other caller is (owner o (record { caller = caller; note = n }) other h may))
  compact_marked b o other Idle note false is may h = h
  compact_marked b o other Met note false is may h = h

  compact_step : (b : Option Note) (o c : Option OpenJob) (s : State) (what : Step) (note : Note) → MayStep s (callers c o) what → IsOpenCompactOf b o → IsOpenCompactOf (begun_compact_after caller b what note) (compact_after o what note)
  compact_step b o c s (Tick now x) note may h = h
  compact_step b o c s (Call now x cmd) note may h = h
  compact_step b o c s (Exec now x cs) note may h = h
  compact_step b o c s (PinNow now x) note may h = h
  compact_step b o c s (PinnedRead now x cmd) note may h = h
  compact_step b o c s (PinnedRefused now x cs) note may h = h
  compact_step b o c s (Unpin now x) note may h = h
  compact_step b o c s (Job other kind.Compact sign) note may h = compact_marked b o other sign note (other == caller) refl may h
  compact_step b o c s (Job other kind.Flush sign) note may h = h
  compact_step b o c s (Job other kind.Counts sign) note may h = h

  compact_run : (b : Option Note) (o c : Option OpenJob) (s : State) (seen : List Place) → IsLegalFrom s (callers c o) (steps_of seen) → IsOpenCompactOf b o → IsOpenCompactOf (begun_compact caller b seen) (open_compact o seen)
  compact_run b o c s [] legal h = h
  compact_run b o c s (p ∷ ps) legal h =
      compact_run (begun_compact_after caller b p.what p.note) (compact_after o p.what p.note) (flush_after c p.what p.note) (step s p.what).1 ps
      (subst (λ (j : Jobs). IsLegalFrom (step s p.what).1 j (steps_of ps)) (callers_by c o p.what p.note) legal.1) (compact_step b o c s p.what p.note legal.0 h)

  -- in a legal history a compaction that the caller began, and did not end, is the open one
  pub begun_compact_is_open : (s : State) (seen : List Place) (note : Note) → IsLegal s (steps_of seen) → begun_compact caller None seen ≡ Some note → open_compact None seen ≡ Some (record { caller = caller; note = note })
  begun_compact_is_open s seen note legal begun = subst (λ (b : Option Note). IfSome b (λ n. open_compact None seen ≡ Some (record { caller = caller; note = n }))) begun (compact_run None None None s seen legal tt)
