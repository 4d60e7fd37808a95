-- The own entries of a caller have its calls and its jobs, and so have the entries that are new.
use Rattle.std.proofs.Common.{◌≡◌, ℕ, Bool, true, false, cond, List, [], ◌∷◌, ◌++◌, refl, sym, ap, ◌∙◌}
use Rattle.std.proofs.lemmas.List.{map-append}
use Rattle.std.proofs.lemmas.List.Elements.{filter-append}
use Rattle.std.specs.Prelude.{◌==◌}
use Rattle.redis_model.specs.declared.history.Step.{Step}
use Rattle.redis_model.specs.declared.history.Step.TheVariants.{Tick, Call, Exec, PinNow, PinnedRead, PinnedRefused, Unpin, Job}
use Rattle.redis_model.specs.declared.history.Place.{Place}
use Rattle.redis_model.specs.Desk.{mine}
use Rattle.redis_model.specs.Legal.{is_call_of, is_job_of, calls_of, jobs_of}
use Rattle.redis_model.specs.Places.{steps_of}
use Rattle.turn_hall.specs.Hands.{entries_of}
use Rattle.turn_hall.specs.Places.{step_caller, by_of}

no_call : (n : ℕ) (s : Step) → (step_caller s == n) ≡ false → is_call_of n s ≡ false
no_call n (Tick now caller) h = h
no_call n (Call now caller command) h = h
no_call n (Exec now caller commands) h = h
no_call n (PinNow now caller) h = h
no_call n (PinnedRead now caller command) h = h
no_call n (PinnedRefused now caller commands) h = h
no_call n (Unpin now caller) h = h
no_call n (Job caller kind mark) h = refl

no_job : (n : ℕ) (s : Step) → (step_caller s == n) ≡ false → is_job_of n s ≡ false
no_job n (Tick now caller) h = refl
no_job n (Call now caller command) h = refl
no_job n (Exec now caller commands) h = refl
no_job n (PinNow now caller) h = refl
no_job n (PinnedRead now caller command) h = refl
no_job n (PinnedRefused now caller commands) h = refl
no_job n (Unpin now caller) h = refl
no_job n (Job caller kind mark) h = h

call_kept : (n : ℕ) (p : Place) (own ps : List Place) → mine n own ≡ mine n ps → (b : Bool) → (by_of p == n) ≡ b → mine n (cond b (p ∷ own) own) ≡ mine n (p ∷ ps)
call_kept n p own ps e true is = ap (λ l. cond (is_call_of n p.what) (p.what ∷ l) l) e
call_kept n p own ps e false is = e ∙ sym (ap (λ b. cond b (p.what ∷ mine n ps) (mine n ps)) (no_call n p.what is))

own_calls : (n : ℕ) (ps : List Place) → mine n (entries_of by_of n ps) ≡ mine n ps
own_calls n [] = refl
own_calls n (p ∷ ps) = call_kept n p (entries_of by_of n ps) ps (own_calls n ps) (by_of p == n) refl

job_kept : (n : ℕ) (p : Place) (own ps : List Place) → jobs_of n (steps_of own) ≡ jobs_of n (steps_of ps) → (b : Bool) → (by_of p == n) ≡ b → jobs_of n (steps_of (cond b (p ∷ own) own)) ≡ jobs_of n (steps_of (p ∷ ps))
job_kept n p own ps e true is = ap (λ l. cond (is_job_of n p.what) (p.what ∷ l) l) e
job_kept n p own ps e false is = e ∙ sym (ap (λ b. cond b (p.what ∷ jobs_of n (steps_of ps)) (jobs_of n (steps_of ps))) (no_job n p.what is))

own_jobs : (n : ℕ) (ps : List Place) → jobs_of n (steps_of (entries_of by_of n ps)) ≡ jobs_of n (steps_of ps)
own_jobs n [] = refl
own_jobs n (p ∷ ps) = job_kept n p (entries_of by_of n ps) ps (own_jobs n ps) (by_of p == n) refl

pub same_calls : (n : ℕ) (ps qs : List Place) → entries_of by_of n ps ≡ entries_of by_of n qs → mine n ps ≡ mine n qs
same_calls n ps qs e = sym (own_calls n ps) ∙ (ap (mine n) e ∙ own_calls n qs)

pub same_jobs : (n : ℕ) (ps qs : List Place) → entries_of by_of n ps ≡ entries_of by_of n qs → jobs_of n (steps_of ps) ≡ jobs_of n (steps_of qs)
same_jobs n ps qs e = sym (own_jobs n ps) ∙ (ap (λ l. jobs_of n (steps_of l)) e ∙ own_jobs n qs)

-- where the history before has no entry of the caller that it had not seen, the entries behind it bring all that is new
pub more_calls : (n : ℕ) (seen before es : List Place) → entries_of by_of n before ≡ entries_of by_of n seen → mine n (before ++ es) ≡ mine n seen ++ mine n es
more_calls n seen before es e = ap (calls_of n) (map-append (λ p. p.what) before es) ∙ (filter-append (is_call_of n) (steps_of before) (steps_of es) ∙ ap (λ l. l ++ mine n es) (same_calls n before seen e))

pub more_jobs : (n : ℕ) (seen before es : List Place) → entries_of by_of n before ≡ entries_of by_of n seen → jobs_of n (steps_of (before ++ es)) ≡ jobs_of n (steps_of seen) ++ jobs_of n (steps_of es)
more_jobs n seen before es e = ap (jobs_of n) (map-append (λ p. p.what) before es) ∙ (filter-append (is_job_of n) (steps_of before) (steps_of es) ∙ ap (λ l. l ++ jobs_of n (steps_of es)) (same_jobs n before seen e))
