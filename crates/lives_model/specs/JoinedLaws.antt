-- Batches that are joined: three of them, one with nothing in it, and where nothing is in the joined one.
use Rattle.std.proofs.Common.{◌≡◌, ◌↔◌, refl, sym, ap, ◌∙◌, Bool, true, false}
use Rattle.std.proofs.lemmas.Bool.{or_parts}
use Rattle.std.specs.Prelude.{◌||◌, Option, Some, None, is_some, option_map}
use Rattle.kv_base.specs.Map.{Bytes, get, get-empty, empty, same_map}
use Rattle.batch_codec.specs.Batches.{Batch, joined, over}
use Rattle.batch_codec.specs.BatchLaws.{get-joined}
use Rattle.lives_model.specs.OwnKeyLaws.{empty_is, none_is}
use Rattle.lives_model.specs.JoinedBatchLaws.{joined_some}

-- what stands at a raw key of the joined batch
abbrev newest : {X : Type 0} → Option X → Option X → Option X
newest later earlier = over (option_map (λ x. Some x) later) earlier

-- of three, whichever two are joined first
newest_of : {X : Type 0} (a b c : Option X) → newest c (newest b a) ≡ newest (newest c b) a
newest_of a b None = refl
newest_of a b (Some x) = refl

-- three batches, whichever two are joined first
pub joined_of : (b later last : Batch) → joined (joined b later) last ≡ joined b (joined later last)
joined_of b later last = same_map (joined (joined b later) last) (joined b (joined later last)) (λ raw.
    get-joined (joined b later) last raw
    ∙ ap (newest (get last raw)) (get-joined b later raw)
    ∙ newest_of (get b raw) (get later raw) (get last raw)
    ∙ sym (get-joined b (joined later last) raw ∙ ap (λ o. newest o (get b raw)) (get-joined later last raw)))

-- nothing behind a batch
pub joined-empty : (b : Batch) → joined b empty ≡ b
joined-empty b = same_map (joined b empty) b (λ raw. get-joined b empty raw ∙ ap (λ o. newest o (get b raw)) (get-empty raw))

-- and nothing in front of it
pub empty-joined : (b : Batch) → joined empty b ≡ b
empty-joined b = same_map (joined empty b) b (λ raw. get-joined empty b raw ∙ ap (newest (get b raw)) (get-empty raw) ∙ on_nothing (get b raw))
  where
    on_nothing : {X : Type 0} (o : Option X) → newest o None ≡ o
    on_nothing None = refl
    on_nothing (Some x) = refl

-- an option in which nothing is
none_by : {X : Type 0} (o : Option X) → is_some o ≡ false → o ≡ None
none_by None e = refl
none_by (Some x) e = absurd (cc)

-- the joined batch has no row exactly where neither has one
pub nothing_joined : (b later : Batch) → (joined b later ≡ empty) ↔ ((b ≡ empty) × (later ≡ empty))
nothing_joined b later = (
  λ e. (empty_is b (λ raw. none_by (get b raw) (neither e raw).1), empty_is later (λ raw. none_by (get later raw) (neither e raw).0)),
  λ both. (λ i. joined (both.0 i) (both.1 i)) ∙ joined-empty empty,
)
  where
    neither : joined b later ≡ empty → (raw : Bytes) → (is_some (get later raw) ≡ false) × (is_some (get b raw) ≡ false)
    neither e raw = or_parts (is_some (get later raw)) (is_some (get b raw)) (sym (joined_some b later raw) ∙ ap (λ (n : Batch). is_some (get n raw)) e ∙ ap is_some (get-empty raw))
