-- What a log that is opened without its records keeps of them.
use Rattle.std.proofs.Common.{◌≡◌, ◌≢◌, inl, inr, ℕ, ◌≤◌, List, [], ◌∷◌, length, drop, Option, Some, IfSome, Result, Ok, Err, OnOk, refl, sym, ◌∙◌, ap, subst, arith}
use Rattle.std.proofs.lemmas.Bool.{cases_eq}
use Rattle.kv_base.specs.declared.name.FileName.{FileName}
use Rattle.kv_outside.specs.Disk.{Disk, NothingNew, Touches, Agrees, CrashLeaves, IsDurable}
use Rattle.kv_outside.specs.Files.{HasWritten, Torn}
use Rattle.kv_outside.specs.ToldLaws.{goes_keeps, told_any, told_given, told_leads, holds_written}
use Rattle.kv_outside.specs.RunLaws.{run_nothing, run_then, run_weaken, at_end, agrees_still}
use Rattle.gated_log.specs.Gated.{records, gated, IsShut, HasRecordsOrNone, HasShutGate, HasNoShutGate}
use Rattle.gated_log.specs.RecordLaws.{end_none, records_shut, small_records}
use Rattle.gated_log.specs.States.{Shows}
use Rattle.gated_log.specs.Steps.{TriesAt, Stores}
use Rattle.gated_log.proofs.Calls.{run_into, durable_has, shows_named, run_named}

-- ---- the bytes

first_shut : (d : List ℕ) → HasShutGate 0 d → IsShut 0 [] d
unfolding gated
first_shut d gate = record { at = end_none; gate = gate.gate; rest = gate.rest; closed = gate.closed; is = gate.is }

first_closed : (d c : List ℕ) → HasWritten 0 (0 ∷ []) d c → IsShut 0 [] c
unfolding gated
first_closed d c holds = record { at = end_none; gate = 0; rest = drop 1 d; closed = not_open; is = holds_written 0 [] d (0 ∷ []) d c refl refl holds }
  where
    not_open : ◌≢◌ {A = ℕ} 0 1
    not_open same = absurd (omega arith)

-- a write of an open gate, or of one that is not there, that may be cut short
first_torn : (bodies : List (List ℕ)) (d c : List ℕ) → HasNoShutGate 0 d → Torn 0 1 d c → records d ≡ bodies → HasRecordsOrNone bodies c
first_torn bodies d c (inl empty) torn is = inr (small_records c (omega (arith, torn.no_longer, ap length empty)))
first_torn bodies d c (inr opened) torn is = by_bytes c torn.after torn.no_shorter
  where
    by_bytes : (new : List ℕ) → drop 1 new ≡ drop 1 d → length d ≤ length new → HasRecordsOrNone bodies new
    by_bytes [] after long = absurd (omega (arith, long, ap length opened.1))
    by_bytes (gate ∷ rest) after long = elim (cases_eq gate 1) [
      | inl is_open ↦ inl (ap records (λ i. is_open i ∷ (after ∙ ap (λ (l : List ℕ). drop 1 l) opened.1) i) ∙ ap records (sym opened.1) ∙ is)
      | inr shut ↦ inr (records_shut gate rest shut)
    ]

-- ---- the calls

pub on_ok_then : {T E P Q : Type 0} (r : Result T E) → OnOk r P → (P → Q) → OnOk r Q
on_ok_then (Ok x) p leads = leads p
on_ok_then (Err e) p leads = tt

pub shut_first_tells : (held : Option (List ℕ)) → IfSome held (HasShutGate 0) → IfSome held (IsShut 0 [])
shut_first_tells held gate = told_leads (HasShutGate 0) (IsShut 0 []) first_shut held gate

module _ (name : FileName) (old mid : Disk) (held : Option (List ℕ)) (asked : NothingNew old mid) where
  abbrev Held : List ℕ → Type 0
  Held c = held ≡ Some c

  still : IsDurable old name held → CrashLeaves mid name Held
  still durable = at_end name old mid Held (run_nothing name old mid Held asked (record { each = λ c image. durable.only c image }))

  agrees_mid : Agrees old name held → Agrees mid name held
  agrees_mid agrees = agrees_still name old mid held held (asked.reads name) refl agrees

  pub first_stays : (bodies : List (List ℕ)) → CrashLeaves old name (λ c. records c ≡ bodies) → Touches name old mid (HasRecordsOrNone bodies)
  first_stays bodies leaves = run_weaken name old mid (λ c. records c ≡ bodies) (HasRecordsOrNone bodies) (run_nothing name old mid (λ c. records c ≡ bodies) asked leaves) (λ c is. inl is)

  pub shut_first : IfSome held (HasShutGate 0) → Agrees old name held → IsDurable old name held → Shows mid name held (IsShut 0 [])
  shut_first gate agrees durable =
      record {
        agrees = agrees_mid agrees;
        images = record { each = λ c image. told_given (IsShut 0 []) held c ((still durable).each c image) (shut_first_tells held gate) };
      }

  module _ (new : Disk) (now : Option (List ℕ)) (tries : TriesAt 0 (0 ∷ []) name mid new held now) where
    pub first_run : IfSome held (HasNoShutGate 0) → (bodies : List (List ℕ)) → IsDurable old name held → CrashLeaves old name (λ c. records c ≡ bodies) → Touches name old new (HasRecordsOrNone bodies)
    first_run gate bodies durable leaves =
        let before = run_nothing name old mid (λ c. records c ≡ bodies) asked leaves in
        let had = at_end name old mid (λ c. records c ≡ bodies) before in
        let holds = still durable in
        run_then name old mid new (HasRecordsOrNone bodies) (first_stays bodies leaves)
        (run_into name (Torn 0 1) mid new (λ c. (held ≡ Some c) × (records c ≡ bodies)) (HasRecordsOrNone bodies) tries.disk
        (record { each = λ c image. (holds.each c image, had.each c image) })
        (λ c both. inl both.1)
        (λ d c both torn. first_torn bodies d c (told_given (HasNoShutGate 0) held d both.0 gate) torn both.1))

    pub closed_first_tells : Stores 0 (0 ∷ []) name mid new held now → IfSome now (IsShut 0 [])
    closed_first_tells stores = goes_keeps (HasWritten 0 (0 ∷ [])) (λ c. Unit {0}) (IsShut 0 []) (λ d c any holds. first_closed d c holds) held now stores.written (told_any held)

    pub closed_first : Stores 0 (0 ∷ []) name mid new held now → Agrees old name held → Shows new name now (IsShut 0 [])
    closed_first stores agrees =
        record {
          agrees = tries.agrees (agrees_mid agrees);
          images = durable_has new name now (IsShut 0 []) (stores.durable (agrees_mid agrees)) (closed_first_tells stores);
        }

-- opened and synced, and then closed at the start
pub reset_run : (name after : FileName) (old mid new : Disk) (held : Option (List ℕ)) (bodies : List (List ℕ)) → after ≡ name → NothingNew old mid → IsDurable mid name held
    → (IsDurable mid after held → CrashLeaves mid after (λ c. records c ≡ bodies) → Touches after mid new (HasRecordsOrNone bodies)) → CrashLeaves old name (λ c. records c ≡ bodies) → Touches name old new (HasRecordsOrNone bodies)
reset_run name after old mid new held bodies same opening durable closing leaves =
    let first = run_nothing name old mid (λ c. records c ≡ bodies) opening leaves in
    let here : CrashLeaves mid after (λ c. records c ≡ bodies) = subst (λ (n : FileName). CrashLeaves mid n (λ c. records c ≡ bodies)) (sym same) (at_end name old mid (λ c. records c ≡ bodies) first) in
    let still_durable : IsDurable mid after held = subst (λ (n : FileName). IsDurable mid n held) (sym same) durable in
    run_then name old mid new (HasRecordsOrNone bodies)
    (run_weaken name old mid (λ c. records c ≡ bodies) (HasRecordsOrNone bodies) first (λ c is. inl is))
    (run_named name after mid new (HasRecordsOrNone bodies) same (closing still_durable here))

pub reset_failed : (name : FileName) (old new : Disk) (bodies : List (List ℕ)) → NothingNew old new → CrashLeaves old name (λ c. records c ≡ bodies) → Touches name old new (HasRecordsOrNone bodies)
reset_failed name old new bodies opening leaves = run_weaken name old new (λ c. records c ≡ bodies) (HasRecordsOrNone bodies) (run_nothing name old new (λ c. records c ≡ bodies) opening leaves) (λ c is. inl is)

pub reset_rests : (name after last : FileName) (mid new : Disk) (held now : Option (List ℕ)) → after ≡ name → last ≡ after → Agrees mid name held → IsDurable mid name held
    → (Agrees mid after held → IsDurable mid after held → Shows new after now (IsShut 0 [])) → Shows new last now (IsShut 0 [])
reset_rests name after last mid new held now same final agrees durable closing =
    shows_named new after last now (IsShut 0 []) final
    (closing (subst (λ (n : FileName). Agrees mid n held) (sym same) agrees) (subst (λ (n : FileName). IsDurable mid n held) (sym same) durable))
