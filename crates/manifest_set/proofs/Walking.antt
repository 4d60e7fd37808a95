-- How a slot is read, record by record.
use Rattle.std.proofs.Common.{◌≡◌, ℕ, ◌≤◌, List, [], ◌∷◌, ◌++◌, length, drop, Option, Some, None, Ok, Err, sym, ◌∙◌, ap, subst, arith}
use Rattle.kv_base.specs.Map.{Bytes}
use Rattle.gated_log.specs.Gated.{records, EndsAt}
use Rattle.gated_log.specs.RecordLaws.{records-gated, ends_records}
use Rattle.gated_log.specs.Walk.{IsPassed, StandsAt}
use Rattle.gated_log.specs.WalkLaws.{walk_begins, walk_goes_on, walk_ends}
use Rattle.edit_codec.specs.declared.state.State.{State}
use Rattle.manifest_set.specs.Slots.{said_behind, said_by, slot_of}
use Rattle.manifest_set.specs.SlotLaws.{said_by-none, said_by-push, said_by-damage}

-- records before this place say this
pub record IsWalked (taken place : ℕ) (says : Option State) (bytes : Bytes) : Type 0 where
  pub within : place ≤ length bytes
  pub bodies : List Bytes
  pub passed : IsPassed place bodies bytes
  pub read : said_by taken bodies ≡ Ok says

pub begins : (taken : ℕ) (bytes : Bytes) → IsWalked taken 0 None bytes
begins taken bytes = record { within = omega arith; bodies = []; passed = walk_begins bytes; read = said_by-none taken }

pub goes_on : (taken place next : ℕ) (says : Option State) (now : State) (body bytes : Bytes) → IsWalked taken place says bytes → StandsAt place next body bytes → next ≤ length bytes → Some now ≡ said_behind taken says body
    → IsWalked taken next (Some now) bytes
goes_on taken place next says now body bytes was stands within read = record {
  within = within;
  bodies = was.bodies ++ body ∷ [];
  passed = walk_goes_on place next was.bodies body bytes was.passed stands;
  read = said_by-push taken was.bodies says now body was.read (sym read);
}

pub damaged : (taken place : ℕ) (says : Option State) (body bytes : Bytes) (more : List Bytes) → IsWalked taken place says bytes → records (drop place bytes) ≡ body ∷ more → None ≡ said_behind taken says body → slot_of taken bytes ≡ Err place
damaged taken place says body bytes more was here damage =
    ap (said_by taken) (ap records was.passed.is ∙ records-gated was.bodies (drop place bytes) was.passed.at.fits ∙ ap (λ (bs : List Bytes). was.bodies ++ bs) here)
    ∙ said_by-damage taken was.bodies more says body was.read (sym damage)
    ∙ ap (λ (p : ℕ). Err p) (sym was.passed.at.place)

pub record IsDone (taken place : ℕ) (says : Option State) (bytes : Bytes) : Type 0 where
  pub ends : EndsAt place (records bytes) bytes
  pub read : slot_of taken bytes ≡ Ok says

pub ended : (taken place : ℕ) (says : Option State) (bytes : Bytes) → IsWalked taken place says bytes → records (drop place bytes) ≡ [] → IsDone taken place says bytes
ended taken place says bytes was none =
    let ends = walk_ends place was.bodies bytes was.passed none in
    let all = ends_records place was.bodies bytes ends in
    record {
      ends = subst (λ (bs : List Bytes). EndsAt place bs bytes) (sym all) ends;
      read = ap (said_by taken) all ∙ was.read;
    }
