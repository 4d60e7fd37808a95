-- How what a slot says grows with its records, and what both slots say together.
use Rattle.std.proofs.Common.{◌≡◌, ◌≢◌, ◌⊎◌, inl, inr, ⊎_elim, ℕ, ◌+◌, ◌<◌, ◌≤◌, Bool, true, false, cond, List, [], ◌∷◌, ◌++◌, length, Option, Some, None, option_and_then, Result, Ok, Err, refl, sym, ◌∙◌, ap, subst, arith, length-append}
use Rattle.std.specs.Prelude.{nat_lt, nat_le, ◌==◌, ◌&&◌}
use Rattle.std.specs.List.{list_all}
use Rattle.std.specs.Option.{option_map_or, unwrap_or}
use Rattle.std.proofs.lemmas.Bool.Decides.{nat_tests}
use Rattle.kv_base.specs.Map.{Bytes}
use Rattle.kv_base.specs.Fields.{text}
use Rattle.kv_base.specs.FieldLaws.{length-text}
use Rattle.kv_base.specs.InversionLaws.{same_some, and_then_is, if_is, both_first, both_second, map_is, kept_is}
use Rattle.gated_log.specs.Gated.{records, gated}
use Rattle.level_set.specs.Edits.{tables_after}
use Rattle.level_set.specs.EditLaws.{after_are_tables, tables_none}
use Rattle.level_set.specs.Tables.{is_table, are_tables, are_runs_below}
use Rattle.edit_codec.specs.RecordLaws.{only_edit_is_read, only_head_is_read}
use Rattle.edit_codec.specs.Records.{read_edit, read_state_head}
use Rattle.edit_codec.specs.States.{new_state, state_after, state_with_edit, with_epoch, is_state_head, are_numbers, last_epoch}
use Rattle.edit_codec.specs.declared.state.State.{State}
use Rattle.manifest_set.specs.Slots.{Damage, IsOutdone, begun_state, edited_state, said_behind, said_from, said_by, slot_of, epoch_of, later_state, by_both, by_first, slots_of}

-- ---- epochs

-- a head's epoch is not 0
one_at_least : (state : State) → is_state_head state ≡ true → 1 ≤ state.epoch
one_at_least state is = grind (arith, nat_tests)

-- an edit keeps the epoch
pub edited_keeps : (state after : State) (body : Bytes) → edited_state state body ≡ Some after → after.epoch ≡ state.epoch
unfolding state_after
edited_keeps state after body is =
    let edit = and_then_is (state_after state) (read_edit body) after is in
    let made = if_is (nat_le state.floor edit.0.floor) _ after edit.2 in
    let tables = map_is (state_with_edit state edit.0) (tables_after state.levels edit.0) after made.1 in
    ap (λ (s : State). s.epoch) (sym tables.2)

pub record IsBegunState (taken : ℕ) (body : Bytes) (state : State) : Type 0 where
  pub read : read_state_head body ≡ Some state
  pub apart : (state.epoch == taken) ≡ false

begun_is : (taken : ℕ) (body : Bytes) (state : State) → begun_state taken body ≡ Some state → IsBegunState taken body state
begun_is taken body state is =
    let head = and_then_is (λ (s : State). cond (s.epoch == taken) None (Some s)) (read_state_head body) state is in
    by_epoch head.0 head.1 (head.0.epoch == taken) refl head.2
  where
    by_epoch : (s : State) → read_state_head body ≡ Some s → (b : Bool) → (s.epoch == taken) ≡ b → cond b None (Some s) ≡ Some state → IsBegunState taken body state
    by_epoch s read true same e = absurd (cc)
    by_epoch s read false apart e = subst (IsBegunState taken body) (same_some s state e) (record { read = read; apart = apart })

begun_apart : (taken : ℕ) (body : Bytes) (state : State) → read_state_head body ≡ Some state → (state.epoch == taken) ≡ false → begun_state taken body ≡ Some state
begun_apart taken body state read apart =
    ap (λ (o : Option State). option_and_then (λ (s : State). cond (s.epoch == taken) None (Some s)) o) read ∙ ap (λ b. cond b None (Some state)) apart

-- ---- one record after the other

map_or_is : {X : Type 0} (f : State → Result X ℕ) (o : Option State) (place : ℕ) (x : X) → option_map_or f o (Err place) ≡ Ok x → (now : State) × (o ≡ Some now) × (f now ≡ Ok x)
map_or_is f None place x is = absurd (cc)
map_or_is f (Some now) place x is = (now, refl, is)

same_ok : {X : Type 0} (x y : X) → ◌≡◌ {A = Result X ℕ} (Ok x) (Ok y) → x ≡ y
same_ok x y is = cc

-- what is behind records that were read
pub said_from-append : (taken place : ℕ) (last after : Option State) (bodies more : List Bytes) → said_from taken place last bodies ≡ Ok after
    → said_from taken place last (bodies ++ more) ≡ said_from taken (place + length (gated bodies)) after more
unfolding said_from gated
said_from-append taken place last after [] more is =
    let same = same_ok last after is in
    (λ i. said_from taken (here i) (same i) more)
  where
    here : place ≡ place + 0
    here = omega arith
said_from-append taken place last after (body ∷ bodies) more is =
    let step = map_or_is (λ now. said_from taken (place + 5 + length body) (Some now) bodies) (said_behind taken last body) place after is in
    let there : place + 5 + length body + length (gated bodies) ≡ place + length (gated (body ∷ bodies)) = omega (arith, length-append (text body) (gated bodies), length-text body) in
    ap (λ o. option_map_or (λ now. said_from taken (place + 5 + length body) (Some now) (bodies ++ more)) o (Err place)) step.1
    ∙ said_from-append taken (place + 5 + length body) (Some step.0) after bodies more step.2
    ∙ ap (λ (p : ℕ). said_from taken p after more) there

-- one record more
pub said_by-push : (taken : ℕ) (bodies : List Bytes) (last : Option State) (now : State) (body : Bytes) → said_by taken bodies ≡ Ok last → said_behind taken last body ≡ Some now → said_by taken (bodies ++ body ∷ []) ≡ Ok (Some now)
unfolding said_by said_from
said_by-push taken bodies last now body is more =
    let here : State → Result (Option State) ℕ = λ s. Ok (Some s) in
    said_from-append taken 0 None last bodies (body ∷ []) is
    ∙ ap (λ o. option_map_or here o (Err (0 + length (gated bodies)))) more

-- one that is damage: its place is behind those before it
pub said_by-damage : (taken : ℕ) (bodies more : List Bytes) (last : Option State) (body : Bytes) → said_by taken bodies ≡ Ok last → said_behind taken last body ≡ None → said_by taken (bodies ++ body ∷ more) ≡ Err (length (gated bodies))
unfolding said_by said_from
said_by-damage taken bodies more last body is damage =
    said_from-append taken 0 None last bodies (body ∷ more) is
    ∙ ap (λ o. option_map_or (λ now. said_from taken (0 + length (gated bodies) + 5 + length body) (Some now) more) o (Err (0 + length (gated bodies)))) damage
    ∙ ap (λ (p : ℕ). Err p) (omega arith)

-- no record says nothing, and a head what it says
pub said_by-none : (taken : ℕ) → said_by taken [] ≡ Ok None
unfolding said_by said_from
said_by-none taken = refl

pub said_by-head : (taken : ℕ) (body : Bytes) (state : State) → read_state_head body ≡ Some state → state.epoch ≢ taken → said_by taken (body ∷ []) ≡ Ok (Some state)
unfolding said_behind
said_by-head taken body state read apart = said_by-push taken [] None state body (said_by-none taken) (begun_apart taken body state read (differ state.epoch taken apart))
  where
    differ : (m n : ℕ) → m ≢ n → (m == n) ≡ false
    differ m n apart = grind (arith, nat_tests)

pub said-edited : (taken : ℕ) (state : State) (body : Bytes) → said_behind taken (Some state) body ≡ edited_state state body
unfolding said_behind
said-edited taken state body = refl

-- an edit more
pub said_by-edited : (taken : ℕ) (bodies : List Bytes) (before after : State) (body : Bytes) → said_by taken bodies ≡ Ok (Some before) → edited_state before body ≡ Some after → said_by taken (bodies ++ body ∷ []) ≡ Ok (Some after)
said_by-edited taken bodies before after body is more = said_by-push taken bodies (Some before) after body is (said-edited taken before body ∙ more)

-- ---- behind a head, which epoch is taken is nothing

behind_head : (taken other place : ℕ) (state : State) (bodies : List Bytes) → said_from taken place (Some state) bodies ≡ said_from other place (Some state) bodies
unfolding said_from said_behind
behind_head taken other place state [] = refl
behind_head taken other place state (body ∷ bodies) = by_edit (edited_state state body) (λ now. behind_head taken other (place + 5 + length body) now bodies)
  where
    by_edit : (o : Option State) → ((now : State) → said_from taken (place + 5 + length body) (Some now) bodies ≡ said_from other (place + 5 + length body) (Some now) bodies)
        → option_map_or (λ now. said_from taken (place + 5 + length body) (Some now) bodies) o (Err place) ≡ option_map_or (λ now. said_from other (place + 5 + length body) (Some now) bodies) o (Err place)
    by_edit None rest = refl
    by_edit (Some now) rest = rest now

keeps_epoch : (taken place : ℕ) (state : State) (after : Option State) (bodies : List Bytes) → said_from taken place (Some state) bodies ≡ Ok after → (s : State) × (after ≡ Some s) × (s.epoch ≡ state.epoch)
unfolding said_from said_behind
keeps_epoch taken place state after [] is = (state, sym (same_ok (Some state) after is), refl)
keeps_epoch taken place state after (body ∷ bodies) is =
    let step = map_or_is (λ now. said_from taken (place + 5 + length body) (Some now) bodies) (edited_state state body) place after is in
    let rest = keeps_epoch taken (place + 5 + length body) step.0 after bodies step.2 in
    (rest.0, rest.1, rest.2 ∙ edited_keeps state step.0 body step.1)

-- what a slot with records says: the state of a head after edits
pub record IsSaid (taken : ℕ) (body : Bytes) (bodies : List Bytes) (last : Option State) : Type 0 where
  pub head : State
  pub begins : IsBegunState taken body head
  pub behind : said_from taken (0 + 5 + length body) (Some head) bodies ≡ Ok last
  pub state : State
  pub is : last ≡ Some state
  pub epoch : state.epoch ≡ head.epoch

said_is : (taken : ℕ) (body : Bytes) (bodies : List Bytes) (last : Option State) → said_by taken (body ∷ bodies) ≡ Ok last → IsSaid taken body bodies last
unfolding said_by said_from said_behind
said_is taken body bodies last is =
    let step = map_or_is (λ now. said_from taken (0 + 5 + length body) (Some now) bodies) (begun_state taken body) 0 last is in
    let rest = keeps_epoch taken (0 + 5 + length body) step.0 last bodies step.2 in
    record { head = step.0; begins = begun_is taken body step.0 step.1; behind = step.2; state = rest.0; is = rest.1; epoch = rest.2 }

-- a state that is said has an epoch from 1 on
pub said_epoch : (taken : ℕ) (bodies : List Bytes) (state : State) → said_by taken bodies ≡ Ok (Some state) → 1 ≤ state.epoch
said_epoch taken [] state is = absurd (cc (sym (said_by-none taken) ∙ is))
said_epoch taken (body ∷ bodies) state is =
    let said_behind = said_is taken body bodies (Some state) is in
    let same = ap (λ (s : State). s.epoch) (same_some state said_behind.state said_behind.is) in
    let one = one_at_least said_behind.head (only_head_is_read body said_behind.head said_behind.begins.read).limits in
    omega (arith, same, said_behind.epoch, one)

-- and one that is not taken
pub said_not_taken : (taken : ℕ) (bodies : List Bytes) (state : State) → said_by taken bodies ≡ Ok (Some state) → state.epoch ≢ taken
said_not_taken taken [] state is = absurd (cc (sym (said_by-none taken) ∙ is))
said_not_taken taken (body ∷ bodies) state is =
    let said_behind = said_is taken body bodies (Some state) is in
    let same = ap (λ (s : State). s.epoch) (same_some state said_behind.state said_behind.is) in
    λ equal. equal_is_not said_behind.head.epoch (sym said_behind.epoch ∙ sym same ∙ equal) said_behind.begins.apart
  where
    equal_is_not : (n : ℕ) → n ≡ taken → (n == taken) ≡ false → ⊥
    equal_is_not n same apart = grind (arith, nat_tests)

-- where no state is said, there is no record
pub said_nothing : (taken : ℕ) (bodies : List Bytes) → said_by taken bodies ≡ Ok None → bodies ≡ []
said_nothing taken [] is = refl
said_nothing taken (body ∷ bodies) is = let said_behind = said_is taken body bodies None is in absurd (cc (said_behind.is))

said_again : (taken other : ℕ) (body : Bytes) (bodies : List Bytes) (last : Option State) (said_it : IsSaid taken body bodies last) → (said_it.head.epoch == other) ≡ false → said_by other (body ∷ bodies) ≡ Ok last
unfolding said_by said_from said_behind
said_again taken other body bodies last said_it unlike =
    ap (λ o. option_map_or (λ now. said_from other (0 + 5 + length body) (Some now) bodies) o (Err 0)) (begun_apart other body said_it.head said_it.begins.read unlike)
    ∙ behind_head other taken (0 + 5 + length body) said_it.head bodies
    ∙ said_it.behind

-- a slot says the same whatever other epoch is taken
pub said_apart : (taken other : ℕ) (bodies : List Bytes) (last : Option State) → said_by taken bodies ≡ Ok last → (last ≡ None) ⊎ (epoch_of last ≢ other) → said_by other bodies ≡ Ok last
said_apart taken other [] last is apart = said_by-none other ∙ sym (said_by-none taken) ∙ is
said_apart taken other (body ∷ bodies) last is apart =
    let said_behind = said_is taken body bodies last is in
    said_again taken other body bodies last said_behind (unlike said_behind (⊎_elim (λ (none : last ≡ None). absurd (cc (sym none ∙ said_behind.is))) (λ (differ : epoch_of last ≢ other). differ) apart))
  where
    unlike : (said_behind : IsSaid taken body bodies last) → epoch_of last ≢ other → (said_behind.head.epoch == other) ≡ false
    unlike said_behind differ =
        let same : epoch_of last ≡ said_behind.head.epoch = ap epoch_of said_behind.is ∙ said_behind.epoch in
        not_equal said_behind.head.epoch (λ equal. differ (same ∙ equal))
      where
        not_equal : (n : ℕ) → n ≢ other → (n == other) ≡ false
        not_equal n apart = grind (arith, nat_tests)

-- no other epoch need be taken
pub said_freely : (taken : ℕ) (bodies : List Bytes) (last : Option State) → said_by taken bodies ≡ Ok last → said_by 0 bodies ≡ Ok last
said_freely taken bodies None is = said_apart taken 0 bodies None is (inl refl)
said_freely taken bodies (Some state) is = said_apart taken 0 bodies (Some state) is (inr (λ none. absurd (omega (arith, none, said_epoch taken bodies state is))))

-- ---- both slots

newer_first : (slot other : Option State) → IsOutdone slot other → later_state slot other ≡ slot
newer_first slot other (inl none) = ap (later_state slot) none ∙ first slot
  where
    first : (slot : Option State) → later_state slot None ≡ slot
    first slot = ap (λ b. cond b None slot) (never (epoch_of slot))
      where
        never : (n : ℕ) → nat_lt n 0 ≡ false
        never n = grind (arith, nat_tests)
newer_first slot other (inr earlier) = ap (λ b. cond b other slot) (not_less (epoch_of slot) (epoch_of other) earlier)
  where
    not_less : (m n : ℕ) → n < m → nat_lt m n ≡ false
    not_less m n lt = grind (arith, nat_tests)

-- the first slot has the later epoch
pub first_says : (a b : Bytes) (slot other : Option State) → slot_of 0 a ≡ Ok slot → slot_of 0 b ≡ Ok other → IsOutdone slot other → slots_of a b ≡ Ok (unwrap_or slot new_state)
unfolding slots_of
first_says a b slot other first second outdone =
    let whole : Option State → Result State Damage = λ o. Ok (unwrap_or o new_state) in
    ap (λ r. by_first r b) first
    ∙ ap (by_both slot) (said_apart 0 (epoch_of slot) (records b) other second (apart outdone))
    ∙ ap whole (newer_first slot other outdone)
  where
    apart : IsOutdone slot other → (other ≡ None) ⊎ (epoch_of other ≢ epoch_of slot)
    apart (inl none) = inl none
    apart (inr earlier) = inr (λ same. absurd (omega (arith, earlier, same)))

newer_second : (slot other : Option State) → IsOutdone slot other → (slot ≡ None) ⊎ (1 ≤ epoch_of slot) → later_state other slot ≡ slot
newer_second slot other (inl none) (inl nothing) = (λ i. later_state (none i) (nothing i)) ∙ sym nothing
newer_second slot other (inl none) (inr one) = ap (λ (o : Option State). later_state o slot) none ∙ ap (λ b. cond b slot None) (less (epoch_of slot) one)
  where
    less : (n : ℕ) → 1 ≤ n → nat_lt 0 n ≡ true
    less n le = grind (arith, nat_tests)
newer_second slot other (inr earlier) any = ap (λ b. cond b slot other) (less (epoch_of other) (epoch_of slot) earlier)
  where
    less : (m n : ℕ) → m < n → nat_lt m n ≡ true
    less m n lt = grind (arith, nat_tests)

-- the second slot has the later epoch
pub second_says : (a b : Bytes) (slot other : Option State) → slot_of 0 a ≡ Ok other → slot_of 0 b ≡ Ok slot → IsOutdone slot other → slots_of a b ≡ Ok (unwrap_or slot new_state)
unfolding slots_of
second_says a b slot other first second outdone =
    let whole : Option State → Result State Damage = λ o. Ok (unwrap_or o new_state) in
    ap (λ r. by_first r b) first
    ∙ ap (by_both other) (said_apart 0 (epoch_of other) (records b) slot second (apart slot second outdone))
    ∙ ap whole (newer_second slot other outdone (some slot second))
  where
    some : (slot : Option State) → slot_of 0 b ≡ Ok slot → (slot ≡ None) ⊎ (1 ≤ epoch_of slot)
    some None is = inl refl
    some (Some state) is = inr (said_epoch 0 (records b) state is)

    apart : (slot : Option State) → slot_of 0 b ≡ Ok slot → IsOutdone slot other → (slot ≡ None) ⊎ (epoch_of slot ≢ epoch_of other)
    apart None is outdone = inl refl
    apart (Some state) is (inl none) = inr (λ same. absurd (omega (arith, said_epoch 0 (records b) state is, same, ap epoch_of none)))
    apart (Some state) is (inr earlier) = inr (λ same. absurd (omega (arith, earlier, same)))

-- ---- what is said is within its limits

five : (a b c d e : Bool) → a ≡ true → b ≡ true → c ≡ true → d ≡ true → e ≡ true → (a && b && c && d && e) ≡ true
five a b c d e p q r s t = rw (p, q, r, s, t) refl

-- the parts of what a head has to be
record IsWithin (state : State) : Type 0 where
  pub least : nat_le 1 state.epoch ≡ true
  pub greatest : nat_le state.epoch last_epoch ≡ true
  pub numbers : are_numbers state.log state.last state.floor state.next_run ≡ true
  pub tables : are_tables state.levels ≡ true
  pub runs : are_runs_below state.next_run state.levels ≡ true

within : (state : State) → is_state_head state ≡ true → IsWithin state
within state is =
    let a = nat_le 1 state.epoch in
    let b = nat_le state.epoch last_epoch in
    let c = are_numbers state.log state.last state.floor state.next_run in
    let d = are_tables state.levels in
    let e = are_runs_below state.next_run state.levels in
    let four = both_first (a && b && c && d) e is in
    let three = both_first (a && b && c) d four in
    let two = both_first (a && b) c three in
    record {
      least = both_first a b two;
      greatest = both_second a b two;
      numbers = both_second (a && b) c three;
      tables = both_second (a && b && c) d four;
      runs = both_second (a && b && c && d) e is;
    }

is_within : (state : State) → IsWithin state → is_state_head state ≡ true
is_within state w = five _ _ _ _ _ w.least w.greatest w.numbers w.tables w.runs

edited_within : (state after : State) (body : Bytes) → edited_state state body ≡ Some after → IsWithin state → IsWithin after
unfolding state_after
edited_within state after body is w =
    let edit = and_then_is (state_after state) (read_edit body) after is in
    let made = if_is (nat_le state.floor edit.0.floor) _ after edit.2 in
    let tables = map_is (state_with_edit state edit.0) (tables_after state.levels edit.0) after made.1 in
    let limits = (only_edit_is_read body edit.0 edit.1).limits in
    let runs = kept_is (are_runs_below edit.0.next_run) _ tables.0 tables.1 in
    subst IsWithin tables.2 (record {
      least = w.least;
      greatest = w.greatest;
      numbers = both_first (are_numbers edit.0.log edit.0.last edit.0.floor edit.0.next_run) (list_all is_table edit.0.added) limits;
      tables = after_are_tables state.levels edit.0 tables.0 tables.1 w.tables;
      runs = runs.1;
    })

said_within : (taken place : ℕ) (state : State) (after : State) (bodies : List Bytes) → IsWithin state → said_from taken place (Some state) bodies ≡ Ok (Some after) → IsWithin after
unfolding said_from said_behind
said_within taken place state after [] w is = subst IsWithin (same_some state after (same_ok (Some state) (Some after) is)) w
said_within taken place state after (body ∷ bodies) w is =
    let step = map_or_is (λ now. said_from taken (place + 5 + length body) (Some now) bodies) (edited_state state body) place (Some after) is in
    said_within taken (place + 5 + length body) step.0 after bodies (edited_within state step.0 body step.1 w) step.2

limits_of_said : (bodies : List Bytes) (state : State) → said_by 0 bodies ≡ Ok (Some state) → IsWithin state
limits_of_said [] state is = absurd (cc (sym (said_by-none 0) ∙ is))
limits_of_said (body ∷ bodies) state is =
    let said_behind = said_is 0 body bodies (Some state) is in
    said_within 0 (0 + 5 + length body) said_behind.head state bodies (within said_behind.head (only_head_is_read body said_behind.head said_behind.begins.read).limits) said_behind.behind

-- a head may say the state in the next epoch, where there is one
pub raised_is_head : (bodies : List Bytes) (says : Option State) → said_by 0 bodies ≡ Ok says → epoch_of says < last_epoch
    → is_state_head (with_epoch (epoch_of says + 1) (unwrap_or says new_state)) ≡ true
raised_is_head bodies None is low = is_within (with_epoch 1 new_state) (record { least = refl; greatest = refl; numbers = refl; tables = tables_none; runs = refl })
raised_is_head bodies (Some state) is low =
    let w = limits_of_said bodies state is in
    is_within (with_epoch (state.epoch + 1) state) (record { least = one (state.epoch + 1) (omega arith); greatest = upto (state.epoch + 1) last_epoch (omega (arith, low)); numbers = w.numbers; tables = w.tables; runs = w.runs })
  where
    one : (n : ℕ) → 1 ≤ n → nat_le 1 n ≡ true
    one n le = grind (arith, nat_tests)

    upto : (m n : ℕ) → m ≤ n → nat_le m n ≡ true
    upto m n le = grind (arith, nat_tests)

pub greatest_epoch : (bodies : List Bytes) (state : State) → said_by 0 bodies ≡ Ok (Some state) → state.epoch ≤ last_epoch
greatest_epoch bodies state is = from_test state.epoch last_epoch (limits_of_said bodies state is).greatest
  where
    from_test : (m n : ℕ) → nat_le m n ≡ true → m ≤ n
    from_test m n is = grind (arith, nat_tests)
