-- The plan of SMOVE.
use Rattle.std.proofs.Common.{ℕ, ◌≡◌, ◌+◌, ◌-◌, zero, suc, refl, sym, ap, subst, ◌∙◌, Bool, true, false, cond, [], ◌∷◌, arith}
use Rattle.std.proofs.lemmas.Bool.Decides.{nat_tests}
use Rattle.std.proofs.lemmas.List.Elements.{All-head, All-tail}
use Rattle.std.specs.Prelude.{◌<◌, ◌^◌, ◌==◌, ◌||◌, nat_lt, not, Option, Some, None, Ok, Err, is_some, option_map, option_and_then, IsTrue, IsFalse}
use Rattle.kv_base.specs.Map.{Bytes, Set, same, same_is, same_itself, same_map, kept, get, has, empty, insert, remove, size, get-empty, get-insert, get-remove, get-keep, size-insert, size-remove}
use Rattle.kv_base.specs.RawKeys.{is_key, is_version}
use Rattle.kv_base.specs.declared.kind.Kind.TheVariants as code
use Rattle.batch_codec.specs.Batches.{Batch, joined, over}
use Rattle.batch_codec.specs.BatchLaws.{get-joined}
use Rattle.redis_model.specs.declared.reply.Reply.{Reply}
use Rattle.redis_model.specs.declared.reply.Reply.TheVariants as reply
use Rattle.redis_model.specs.declared.reply.ReplyError.{ReplyError}
use Rattle.redis_model.specs.declared.reply.ReplyError.TheVariants.{TooLarge}
use Rattle.redis_model.specs.declared.command.Command.{Command}
use Rattle.redis_model.specs.declared.command.Command.TheVariants as cmd
use Rattle.redis_model.specs.declared.command.Cmds.TheVariants.{One}
use Rattle.redis_model.specs.Value.{SetOf, Entry, RedisMap, deadline_at, max_size}
use Rattle.redis_model.specs.Outcome.{Outcome, ◌>>=◌, number, sets, seen, at_key, change}
use Rattle.redis_model.specs.Sets.{s_move, move_member}
use Rattle.redis_model.specs.Keys.{among}
use Rattle.redis_model.specs.About.{keys_of}
use Rattle.redis_model.specs.Limits.{IsName, IsWithin}
use Rattle.redis_model.specs.Apply.{carried_out}
use Rattle.lives_model.specs.declared.plan.Plan.{Plan}
use Rattle.lives_model.specs.Rows.{Rows, Elements, Scores, meta_key, row_key}
use Rattle.lives_model.specs.Clean.{live_at}
use Rattle.lives_model.specs.Means.{Means}
use Rattle.lives_model.specs.Moved.{head_after}
use Rattle.lives_model.specs.OwnKeyLaws.{no_size}
use Rattle.lives_model.specs.Plans.{IsPlanOf, IsReady, IsFresh, same_row, touches}
use Rattle.plan_base.specs.declared.life.LifeSight.{LifeSight}
use Rattle.plan_base.specs.Carries.{Carries}
use Rattle.plan_base.specs.Seen.{deadline_in}
use Rattle.plan_base.specs.MetaRows.{meta_batch}
use Rattle.plan_base.specs.KeyLimitLaws.{name_is_key}
use Rattle.plan_base.specs.KeyStepLaws.{touched_differs}
use Rattle.plan_base.specs.KeyPlanLaws.{refused_plan, still_plan}
use Rattle.plan_base.specs.Retimed.{KeepsLife}
use Rattle.plan_base.specs.Lives.{HasSizeIn, SeesLife, life_found, life_size}
use Rattle.plan_base.specs.LifeLaws.{set_stands, member_row_of, sees_life, size_there}
use Rattle.plan_base.specs.LifePlans.{answering}
use Rattle.plan_base.specs.LifeSteps.{life_on}
use Rattle.plan_base.specs.LifeChanges.{WantsRows, differing, row_differs}
use Rattle.life_plans.specs.SetLives.{has_member}
use Rattle.life_plans.specs.SetLiveLaws.{has_member_is}
use Rattle.life_plans.specs.ElementLaws.{set_has_elements}
use Rattle.life_plans.specs.WantedRows.{wanted, joins, leaves}
use Rattle.life_plans.specs.WantedLaws.{wants_member, wants_no_member}
use Rattle.life_plans.specs.ChangePlans.{changing_plan, emptied_plan, life_text, size_after}
use Rattle.life_plans.specs.Changes.{FindsLife}
use Rattle.life_plans.specs.ChangeSizeLaws.{HoldsLife, held, finds_life}
use Rattle.life_plans.specs.AlikePlanLaws.{found_size}
use Rattle.life_plans.specs.KeyParts.{PlansKey, Puts, LeavesDeadline}
use Rattle.life_plans.specs.KeyPartLaws.{no_third_touched, unchanged_stays, named_is_touched, left_gone, gone_part, changed_part, leaves_then, put_is, put_at, put_elsewhere, change_leaves, one_key_plan, two_keys_plan}
use Rattle.set_cmds.specs.MovePlanned.{until_both, quiet, looking, member_leaving, joining, member_moved, moving_member_found, s_move_plan}

-- ---- a set with one member more or less

-- the member that goes is not there, and the one that joins is
gone_member : (s : Set) (x : Bytes) → has (remove s x) x ≡ false
gone_member s x = ap is_some (get-remove s x x ∙ ap (λ b. cond b None (get s x)) (same_itself x))

new_member : (s : Set) (x : Bytes) → has (insert s x tt) x ≡ true
new_member s x = ap is_some (get-insert s x tt x ∙ ap (λ b. cond b (Some tt) (get s x)) (same_itself x))

-- nothing is in the empty set
none_in_empty : (x : Bytes) → has (empty {X = Unit {0}}) x ≡ false
none_in_empty x = ap is_some (get-empty x)

-- a member that is there already changes nothing
known_member : (s : Set) (x : Bytes) → has s x ≡ true → insert s x tt ≡ s
known_member s x there = same_map (insert s x tt) s (λ q. get-insert s x tt q ∙ by_test q (same q x) refl)
  where
    is_there : (o : Option (Unit {0})) → is_some o ≡ true → Some tt ≡ o
    is_there None h = absurd (cc)
    is_there (Some y) h = refl

    by_test : (q : Bytes) (b : Bool) → same q x ≡ b → cond b (Some tt) (get s q) ≡ get s q
    by_test q true is = is_there (get s x) there ∙ sym (ap (get s) (same_is q x is))
    by_test q false is = refl

-- a set with a member is not empty
some_member : (s : Set) (x : Bytes) → has s x ≡ true → (size s == 0) ≡ false
some_member s x there = by_size (size s) refl
  where
    by_size : (n : ℕ) → size s ≡ n → (n == 0) ≡ false
    by_size zero e = let none : has s x ≡ false = ap (λ (z : Set). has z x) ((no_size s).0 e) ∙ none_in_empty x in absurd (cc)
    by_size (suc n) e = grind (arith, nat_tests)

-- how many members there are then
size_without : (s : Set) (x : Bytes) → has s x ≡ true → size (remove s x) ≡ size s - 1
size_without s x there = size-remove s x ∙ ap (λ b. cond b (size s - 1) (size s)) there

size_with : (s : Set) (x : Bytes) → has s x ≡ false → size (insert s x tt) ≡ size s + 1
size_with s x none = size-insert s x tt ∙ ap (λ b. cond b (size s) (size s + 1)) none

-- what comes out; sets that come out alike are one
abbrev ok : Set → Outcome Set
ok s = Ok s

abbrev map_ok : RedisMap → Outcome RedisMap
map_ok m = Ok m

same_ok : (p q : Set) → ok p ≡ ok q → p ≡ q
same_ok p q e = cc

-- ---- sizes

-- a number within the limit is not too large
not_large : (n : ℕ) → n < 2 ^ 32 → nat_lt max_size n ≡ false
not_large n low = grind (arith, nat_tests)

-- that of a life is within its limit
size_is_low : (found : Option LifeSight) → HasSizeIn found → life_size found < 2 ^ 32
size_is_low None h = omega arith
size_is_low (Some life) h = h

-- ---- rows

-- the row of a member that is there goes, and that of one that is not there is new
row_goes : (row : Bytes) (o : Option (Unit {0})) → is_some o ≡ true → same_row (option_map (λ _. row) o) None ≡ false
row_goes row None h = absurd (cc)
row_goes row (Some x) h = refl

row_is_new : (row : Bytes) (o : Option (Unit {0})) → is_some o ≡ false → same_row (option_map (λ _. row) o) (Some row) ≡ false
row_is_new row None h = refl
row_is_new row (Some x) h = absurd (cc)

-- one row that is wanted, and differs from the one that is there
one_differs : (c : Rows) (k : Bytes) (version : ℕ) (x : Bytes) (row : Option Bytes) → same_row (get c (row_key Elements k version x)) row ≡ false
    → differing c (wanted k version ((x, row) ∷ [])) ≡ wanted k version ((x, row) ∷ [])
unfolding wanted differing
one_differs c k version x row apart = same_map _ _ (λ q. get-keep (row_differs c) (insert empty (row_key Elements k version x) row) q ∙ by_test q (same q (row_key Elements k version x)) refl)
  where
    by_test : (q : Bytes) (s : Bool) → same q (row_key Elements k version x) ≡ s
        → kept (row_differs c q) (get (insert empty (row_key Elements k version x) row) q) ≡ get (insert empty (row_key Elements k version x) row) q
    by_test q true is =
        let here : get (insert empty (row_key Elements k version x) row) q ≡ Some row = get-insert empty (row_key Elements k version x) row q ∙ ap (λ s. cond s (Some row) (get empty q)) is in
        ap (kept (row_differs c q)) here
        ∙ ap (λ raw. cond (not (same_row (get c raw) row)) (Some row) None) (same_is q (row_key Elements k version x) is)
        ∙ ap (λ b. cond (not b) (Some row) None) apart
        ∙ sym here
    by_test q false is =
        let none : get (insert empty (row_key Elements k version x) row) q ≡ None = get-insert empty (row_key Elements k version x) row q ∙ ap (λ s. cond s (Some row) (get empty q)) is ∙ get-empty q in
        ap (kept (row_differs c q)) none ∙ sym none

-- ---- batches that are joined

-- a row that is put in the later one is put in both together
joined_insert : (b later : Batch) (raw : Bytes) (row : Option Bytes) → joined b (insert later raw row) ≡ insert (joined b later) raw row
joined_insert b later raw row = same_map _ _ (λ q.
    get-joined b (insert later raw row) q
    ∙ ap (λ o. over (option_map (λ x. Some x) o) (get b q)) (get-insert later raw row q)
    ∙ by_test q (same q raw)
    ∙ sym (get-insert (joined b later) raw row q ∙ ap (cond (same q raw) (Some row)) (get-joined b later q)))
  where
    by_test : (q : Bytes) (s : Bool)
        → over (option_map (λ x. Some x) (cond s (Some row) (get later q))) (get b q) ≡ cond s (Some row) (over (option_map (λ x. Some x) (get later q)) (get b q))
    by_test q true = refl
    by_test q false = refl

joined_nothing : (b : Batch) → joined b empty ≡ b
joined_nothing b = same_map _ _ (λ q. get-joined b empty q ∙ ap (λ o. over (option_map (λ x. Some x) o) (get b q)) (get-empty q))

-- one row and the metadata
joined_life : (b : Batch) (k : Bytes) (version : ℕ) (x text : Bytes) (row : Option Bytes)
    → joined b (insert (wanted k version ((x, row) ∷ [])) (meta_key k) (Some text)) ≡ insert (insert b (row_key Elements k version x) row) (meta_key k) (Some text)
unfolding wanted
joined_life b k version x text row =
    joined_insert b (insert empty (row_key Elements k version x) row) (meta_key k) (Some text)
    ∙ ap (λ (rows : Batch). insert rows (meta_key k) (Some text))
    (joined_insert b empty (row_key Elements k version x) row ∙ ap (λ (rows : Batch). insert rows (row_key Elements k version x) row) (joined_nothing b))

-- ---- plans that write their key again

module _ (t : ℕ) (k : Bytes) (old : Option ℕ) (fresh : ℕ) (found : Option LifeSight) (rows : Batch) (n : ℕ) (answer : Reply) where
  -- what is written where members are left
  abbrev filled_with : Plan
  filled_with = record { reply = answer; batch = insert rows (meta_key k) (Some (life_text code.Set old (life_on fresh found).version n)); until = until_both t old old }

  -- too many members
  large_plan : nat_lt max_size n ≡ true → changing_plan t k code.Set old fresh found true rows n answer ≡ answering t old (reply.Error TooLarge)
  unfolding changing_plan
  large_plan large = ap (λ b. cond b (answering t old (reply.Error TooLarge)) (cond (n == 0) (emptied_plan t k old found answer) filled_with)) large

  -- none
  empty_plan : nat_lt max_size n ≡ false → (n == 0) ≡ true → changing_plan t k code.Set old fresh found true rows n answer ≡ emptied_plan t k old found answer
  unfolding changing_plan
  empty_plan small none =
      ap (λ b. cond b (answering t old (reply.Error TooLarge)) (cond (n == 0) (emptied_plan t k old found answer) filled_with)) small
      ∙ ap (λ b. cond b (emptied_plan t k old found answer) filled_with) none

  -- and else
  filled_plan : nat_lt max_size n ≡ false → (n == 0) ≡ false → changing_plan t k code.Set old fresh found true rows n answer ≡ filled_with
  unfolding changing_plan
  filled_plan small some =
      ap (λ b. cond b (answering t old (reply.Error TooLarge)) (cond (n == 0) (emptied_plan t k old found answer) filled_with)) small
      ∙ ap (λ b. cond b (emptied_plan t k old found answer) filled_with) some

-- ---- the command

-- a life goes on at either key
keeps : (m : RedisMap) (a b x : Bytes) (w : ℕ) (k : Bytes) → KeepsLife m (cmd.SMove a b x w) k
unfolding head_after
keeps m a b x w k = record { no_store = refl; head = λ h. refl }

-- what it comes to
comes_to : (m : RedisMap) (t : ℕ) (a b x : Bytes) (w : ℕ) → carried_out m t (cmd.SMove a b x w) ≡ s_move m a b x
unfolding carried_out
comes_to m t a b x w = refl

-- two keys are apart either way round
turned : (p q : Bytes) → same p q ≡ false → same q p ≡ false
turned p q apart = by_test (same q p) refl
  where
    by_test : (s : Bool) → same q p ≡ s → s ≡ false
    by_test true is = let yes : same p q ≡ true = ap (same p) (same_is q p is) ∙ same_itself p in absurd (cc)
    by_test false is = refl

-- what is so in any case
or_true : (s : Bool) → (s || true) ≡ true
or_true true = refl
or_true false = refl

module _ {c : Rows} {t : ℕ} {m : RedisMap} (means : Means c t m) (fresh : ℕ) (a b x : Bytes) (w : ℕ) (within : IsWithin (cmd.SMove a b x w))
    (fits : IsTrue (is_version fresh)) (above : IsFresh c fresh a) (above_target : IsFresh c fresh b) where
  abbrev d : Command
  d = cmd.SMove a b x w

  abbrev old : Option ℕ
  old = deadline_in (live_at c t a)

  abbrev old_target : Option ℕ
  old_target = deadline_in (live_at c t b)

  -- this is the plan of the command
  abbrev Plans : Plan → Type 0
  Plans p = IsPlanOf c t fresh m d p.batch p.reply p.until

  short : IsTrue (is_key a)
  short = name_is_key a (All-head IsName a (b ∷ []) within.names)

  short_target : IsTrue (is_key b)
  short_target = name_is_key b (All-head IsName b [] (All-tail IsName a (b ∷ []) within.names))

  named : IsTrue (among (keys_of d) a)
  named = ap (λ s. s || (same a b || false)) (same_itself a)

  named_target : IsTrue (among (keys_of d) b)
  named_target = ap (λ s. same b a || (s || false)) (same_itself b) ∙ or_true (same b a)

  -- it leaves all as it is
  idle : (answer : Reply) → carried_out m t d ≡ Ok (answer, m) → Plans (quiet (until_both t old old_target) answer)
  idle answer is = still_plan fresh d answer means is refl

  -- or it is an error
  refused : (e : ReplyError) → carried_out m t d ≡ Err e → Plans (quiet (until_both t old old_target) (reply.Error e))
  refused e is = refused_plan fresh d e means is

  -- ---- a member that goes over

  module _ (apart : same a b ≡ false) (life : LifeSight) (target : Option LifeSight) (s u : Set)
      (is : life_found code.Set (live_at c t a) ≡ Ok (Some life)) (at : at_key sets m a ≡ Ok s) (there : has s x ≡ true)
      (is_target : life_found code.Set (live_at c t b) ≡ Ok target) (at_target : at_key sets m b ≡ Ok u)
      (done : carried_out m t d ≡ (change sets m a (remove s x) >>= λ n. change sets n b (insert u x tt) >>= λ o. Ok (number 1, o))) where
    -- what the two sets become
    abbrev left : Set
    left = remove s x

    abbrev more : Set
    more = insert u x tt

    finds : FindsLife sets member_row_of c a fresh (Some life) s
    finds = finds_life set_stands set_has_elements means a fresh (Some life) s is at fits above

    finds_target : FindsLife sets member_row_of c b fresh target u
    finds_target = finds_life set_stands set_has_elements means b fresh target u is_target at_target fits above_target

    -- the rows that they want
    abbrev rows : Batch
    rows = wanted a life.version (leaves (x ∷ []))

    abbrev rows_target : Batch
    rows_target = wanted b (life_on fresh target).version (joins (x ∷ []))

    rows_differ : differing c rows ≡ rows
    rows_differ = one_differs c a life.version x None (ap (λ o. same_row o None) (finds.elements x) ∙ row_goes [] (get s x) there)

    want : WantsRows c a life.version rows (member_row_of left)
    want = wants_no_member c a life.version short finds.version s finds.elements x within.fields

    want_target : WantsRows c b (life_on fresh target).version rows_target (member_row_of more)
    want_target = wants_member c b (life_on fresh target).version short_target finds_target.version u finds_target.elements x within.fields

    -- how many members they have
    low : life.size < 2 ^ 32
    low = found_size c t a code.Set (Some life) is

    before : life.size ≡ size s
    before = size_there set_stands c a (Some life) s finds.life

    count : size_after (Some life) 0 1 ≡ size left
    count = let less = size_without s x there in let here = before in omega (arith, less, here)

    small : nat_lt max_size (size left) ≡ false
    small = let less = size_without s x there in let here = before in let most = low in not_large (size left) (omega (arith, less, here, most))

    filled : (size more == 0) ≡ false
    filled = some_member more x (new_member u x)

    -- ---- the source's part

    abbrev text : Bytes
    text = life_text code.Set old life.version (size left)

    abbrev batch : Batch
    batch = cond (size left == 0) (meta_batch a None) (insert rows (meta_key a) (Some text))

    -- that is what its plan writes
    abbrev gone : Plan
    gone = record { reply = number 1; batch = meta_batch a None; until = until_both t old None }

    abbrev written : Plan
    written = record { reply = number 1; batch = insert rows (meta_key a) (Some text); until = until_both t old old }

    leaving_is : member_leaving t fresh a x old (Some life) ≡ cond (size left == 0) gone written
    leaving_is =
        ap (λ n. changing_plan t a code.Set old fresh (Some life) true rows n (number 1)) count
        ∙ by_none (size left == 0) refl
      where
        by_none : (none : Bool) → (size left == 0) ≡ none → changing_plan t a code.Set old fresh (Some life) true rows (size left) (number 1) ≡ cond none gone written
        by_none true e = empty_plan t a old fresh (Some life) rows (size left) (number 1) small e
        by_none false e = filled_plan t a old fresh (Some life) rows (size left) (number 1) small e

    left_batch : (member_leaving t fresh a x old (Some life)).batch ≡ batch
    left_batch = ap (λ p. p.batch) leaving_is ∙ by_none (size left == 0)
      where
        by_none : (none : Bool) → (cond none gone written).batch ≡ cond none (meta_batch a None) (insert rows (meta_key a) (Some text))
        by_none true = refl
        by_none false = refl

    left_reply : (member_leaving t fresh a x old (Some life)).reply ≡ number 1
    left_reply = ap (λ p. p.reply) leaving_is ∙ by_none (size left == 0)
      where
        by_none : (none : Bool) → (cond none gone written).reply ≡ number 1
        by_none true = refl
        by_none false = refl

    -- ---- the map in between

    abbrev entry : Entry
    entry = record { value = SetOf left; deadline = deadline_at m a }

    abbrev between : RedisMap
    between = cond (size left == 0) (remove m a) (insert m a entry)

    first : change sets m a left ≡ Ok between
    first = ap (λ l. cond l (Err TooLarge) (cond (size left == 0) (Ok (remove m a)) (Ok (insert m a entry)))) small ∙ by_none (size left == 0)
      where
        by_none : (none : Bool) → cond none (map_ok (remove m a)) (map_ok (insert m a entry)) ≡ map_ok (cond none (remove m a) (insert m a entry))
        by_none true = refl
        by_none false = refl

    puts : Puts sets m a left (deadline_at m a) between
    puts = put_is sets m between a left (deadline_at m a) first

    comes : carried_out m t d ≡ (change sets between b more >>= λ o. Ok (number 1, o))
    comes = done ∙ ap (λ r. r >>= λ n. change sets n b more >>= λ o. Ok (number 1, o)) first

    same_deadline : deadline_at between b ≡ deadline_at m b
    same_deadline = ap (option_and_then (λ e. e.deadline)) (put_elsewhere sets m between a left (deadline_at m a) b puts (turned a b apart))

    -- ---- the map afterwards

    module _ (o : RedisMap) (second : change sets between b more ≡ Ok o) where
      comes_out : carried_out m t d ≡ Ok (number 1, o)
      comes_out = comes ∙ ap (λ r. r >>= λ o. Ok (number 1, o)) second

      puts_target : Puts sets between b more (deadline_at between b) o
      puts_target = put_is sets between o b more (deadline_at between b) second

      at_source : get o a ≡ cond (size left == 0) None (Some entry)
      at_source = put_elsewhere sets between o b more (deadline_at between b) a puts_target apart ∙ put_at sets m between a left (deadline_at m a) puts

      at_other : get o b ≡ Some (record { value = SetOf more; deadline = deadline_at m b })
      at_other =
          put_at sets between o b more (deadline_at between b) puts_target
          ∙ ap (λ z. cond z None (Some (record { value = SetOf more; deadline = deadline_at between b }))) filled
          ∙ ap (λ dl. Some (record { value = SetOf more; deadline = dl })) same_deadline

      left_deadline : (q : Bytes) → LeavesDeadline m o q
      left_deadline q = leaves_then m between o q (change_leaves sets m between a left q first) (change_leaves sets between o b more q second)

      -- the source changes
      touch : IsTrue (touches m t d a)
      touch = named_is_touched m o t d (number 1) a comes_out named (touched_differs m o d a (λ alike. lacks (size left == 0) (ap (seen sets) (sym (alike ∙ at_source)) ∙ at)))
        where
          lacks : (none : Bool) → seen sets (cond none None (Some entry)) ≡ Ok s → ⊥
          lacks true sees = let no : has s x ≡ false = ap (λ (z : Set). has z x) (sym (same_ok empty s sees)) ∙ none_in_empty x in cc
          lacks false sees = let no : has s x ≡ false = ap (λ (z : Set). has z x) (sym (same_ok left s sees)) ∙ gone_member s x in cc

      part : PlansKey c t fresh m d batch a
      part = by_none (size left == 0) refl
        where
          by_none : (none : Bool) → (size left == 0) ≡ none → PlansKey c t fresh m d (cond none (meta_batch a None) (insert rows (meta_key a) (Some text))) a
          by_none true e = gone_part a short touch (left_gone means o d (number 1) comes_out a (at_source ∙ ap (λ z. cond z None (Some entry)) e))
          by_none false e =
              subst (λ (b : Batch). PlansKey c t fresh m d (insert b (meta_key a) (Some text)) a) rows_differ
              (changed_part set_stands set_has_elements means fresh o d (number 1) comes_out a short (keeps m a b x w a) (Some life) left rows touch
              (at_source ∙ ap (λ z. cond z None (Some entry)) e) small e is finds.version want
              (λ subkey. finds.rows.rows Scores subkey ∙ set_has_elements.no_scores s (2 ^ 63) subkey))

      -- ---- the target has the member

      module _ (known : has u x ≡ true) where
        still : get m b ≡ get o b
        still = by_entry (get m b) refl
          where
            by_entry : (e : Option Entry) → get m b ≡ e → e ≡ get o b
            by_entry None h =
                let none : has u x ≡ false = ap (λ (z : Set). has z x) (sym (same_ok empty u (sym (ap (seen sets) h) ∙ at_target))) ∙ none_in_empty x in
                absurd (cc)
            by_entry (Some e) h =
                let value : e.value ≡ SetOf more = set_stands.is e.value u (sym (ap (seen sets) h) ∙ at_target) ∙ ap SetOf (sym (known_member u x known)) in
                let deadline : e.deadline ≡ deadline_at m b = ap (option_and_then (λ (y : Entry). y.deadline)) (sym h) in
                (λ i. Some (record { value = value i; deadline = deadline i })) ∙ sym at_other

        elsewhere : (q : Bytes) → same q a ≡ false → IsFalse (touches m t d q)
        elsewhere q e = by_test (same q b) refl
          where
            by_test : (s : Bool) → same q b ≡ s → IsFalse (touches m t d q)
            by_test true f = unchanged_stays m o t d (number 1) q comes_out refl (subst (λ (k : Bytes). get m k ≡ get o k) (sym (same_is q b f)) still)
            by_test false f = no_third_touched m t d a b q refl e f

        known_plan : IsPlanOf c t fresh m d batch (number 1) (until_both t old old_target)
        known_plan = one_key_plan fresh d a batch (number 1) o means comes_out part elsewhere (λ q h. left_deadline q)

      -- ---- it does not have it

      module _ (new : has u x ≡ false) (few : nat_lt max_size (size more) ≡ false) where
        abbrev text_target : Bytes
        text_target = life_text code.Set old_target (life_on fresh target).version (size more)

        touch_target : IsTrue (touches m t d b)
        touch_target = named_is_touched m o t d (number 1) b comes_out named_target (touched_differs m o d b (λ alike.
            let sees : ok more ≡ ok u = ap (seen sets) (sym (alike ∙ at_other)) ∙ at_target in
            let yes : has u x ≡ true = ap (λ (z : Set). has z x) (sym (same_ok more u sees)) ∙ new_member u x in
            cc))

        rows_target_differ : differing c rows_target ≡ rows_target
        rows_target_differ = one_differs c b (life_on fresh target).version x (Some []) (ap (λ o. same_row o (Some [])) (finds_target.elements x) ∙ row_is_new [] (get u x) new)

        part_target : PlansKey c t fresh m d (insert rows_target (meta_key b) (Some text_target)) b
        part_target =
            subst (λ (r : Batch). PlansKey c t fresh m d (insert r (meta_key b) (Some text_target)) b) rows_target_differ
            (changed_part set_stands set_has_elements means fresh o d (number 1) comes_out b short_target (keeps m a b x w b) target more rows_target touch_target at_other few filled is_target
            finds_target.version want_target (λ subkey. finds_target.rows.rows Scores subkey ∙ set_has_elements.no_scores u (life_on fresh target).head subkey))

        new_plan : IsPlanOf c t fresh m d (insert (insert batch (row_key Elements b (life_on fresh target).version x) (Some [])) (meta_key b) (Some text_target)) (number 1) (until_both t old old_target)
        new_plan =
            subst (λ (r : Batch). IsPlanOf c t fresh m d r (number 1) (until_both t old old_target)) (joined_life batch b (life_on fresh target).version x text_target (Some []))
            (two_keys_plan fresh d a b batch (insert rows_target (meta_key b) (Some text_target)) (number 1) o means comes_out refl apart part part_target (λ q h. left_deadline q))

    -- ---- the plan

    abbrev entry_target : Entry
    entry_target = record { value = SetOf more; deadline = deadline_at between b }

    -- what the second change comes to, by the size
    second_by : (large : Bool) → nat_lt max_size (size more) ≡ large → change sets between b more ≡ cond large (Err TooLarge) (Ok (insert between b entry_target))
    second_by large l =
        (λ i. cond (l i) (Err TooLarge) (cond (size more == 0) (Ok (remove between b)) (Ok (insert between b entry_target))))
        ∙ ap (λ z. cond large (Err TooLarge) (cond z (Ok (remove between b)) (Ok (insert between b entry_target)))) filled

    moved_by : (y : Bool) → has u x ≡ y → Plans (member_moved t fresh a b x old old_target (Some life) target y)
    moved_by true known =
        subst (λ (r : Batch). IsPlanOf c t fresh m d r (member_leaving t fresh a x old (Some life)).reply (until_both t old old_target)) (sym left_batch)
        (subst (λ (r : Reply). IsPlanOf c t fresh m d batch r (until_both t old old_target)) (sym left_reply)
        (known_plan (insert between b entry_target) (second_by false few) known))
      where
        few : nat_lt max_size (size more) ≡ false
        few =
            let here = size_there set_stands c b target u finds_target.life in
            let most = size_is_low target (found_size c t b code.Set target is_target) in
            not_large (size more) (let alike = ap size (known_member u x known) in omega (arith, here, most, alike))
    moved_by false new = by_size (nat_lt max_size (size more)) refl
      where
        rows_are : Batch
        rows_are = insert (member_leaving t fresh a x old (Some life)).batch (row_key Elements b (life_on fresh target).version x) (Some [])

        count_target : size_after target 1 0 ≡ size more
        count_target =
            let here = size_there set_stands c b target u finds_target.life in
            let grown = size_with u x new in
            omega (arith, here, grown)

        by_size : (large : Bool) → nat_lt max_size (size more) ≡ large → Plans (looking (until_both t old old_target) (joining t fresh b x old_target target (member_leaving t fresh a x old (Some life)).batch))
        by_size true l =
            subst (λ (p : Plan). Plans (looking (until_both t old old_target) p))
            (sym (ap (λ n. changing_plan t b code.Set old_target fresh target true rows_are n (number 1)) count_target ∙ large_plan t b old_target fresh target rows_are (size more) (number 1) l))
            (refused TooLarge (comes ∙ ap (λ r. r >>= λ o. Ok (number 1, o)) (second_by true l)))
        by_size false l =
            subst (λ (p : Plan). Plans (looking (until_both t old old_target) p))
            (sym (ap (λ n. changing_plan t b code.Set old_target fresh target true rows_are n (number 1)) count_target ∙ filled_plan t b old_target fresh target rows_are (size more) (number 1) l filled))
            (subst (λ (r : Batch). IsPlanOf c t fresh m d
            (insert (insert r (row_key Elements b (life_on fresh target).version x) (Some [])) (meta_key b) (Some (life_text code.Set old_target (life_on fresh target).version (size more)))) (number 1) (until_both t old old_target))
            (sym left_batch) (new_plan (insert between b entry_target) (second_by false l) new l))

  -- ---- by what is found

  abbrev until : Option ℕ
  until = until_both t old old_target

  comes_here : carried_out m t d ≡ s_move m a b x
  comes_here = comes_to m t a b x w

  -- a key that cannot be seen as a set is there
  error_is_there : (e : ReplyError) → at_key sets m a ≡ Err e → has m a ≡ true
  error_is_there e at = by_entry (get m a) refl
    where
      by_entry : (o : Option Entry) → get m a ≡ o → is_some o ≡ true
      by_entry None h = let sees = sym (ap (seen sets) h) ∙ at in absurd (cc)
      by_entry (Some y) h = refl

  -- the source is there
  comes_there : has m a ≡ true → carried_out m t d ≡ (at_key sets m a >>= λ s. at_key sets m b >>= λ u. move_member m a b x s u)
  comes_there there = comes_here ∙ ap (λ y. cond y (at_key sets m a >>= λ s. at_key sets m b >>= λ u. move_member m a b x s u) (Ok (number 0, m))) there

  -- both are sets
  by_member : (life : LifeSight) (target : Option LifeSight) (s u : Set)
      → life_found code.Set (live_at c t a) ≡ Ok (Some life) → at_key sets m a ≡ Ok s
      → life_found code.Set (live_at c t b) ≡ Ok target → at_key sets m b ≡ Ok u
      → carried_out m t d ≡ move_member m a b x s u
      → (here there : Bool) → has s x ≡ here → has u x ≡ there
      → Plans (cond (not here) (quiet until (number 0)) (cond (same a b) (quiet until (number 1)) (member_moved t fresh a b x old old_target (Some life) target there)))
  by_member life target s u is at is_target at_target on false there e f =
      idle (number 0) (on ∙ ap (λ y. cond (not y) (Ok (number 0, m)) (cond (same a b) (Ok (number 1, m)) (change sets m a (remove s x) >>= λ n. change sets n b (insert u x tt) >>= λ o. Ok (number 1, o)))) e)
  by_member life target s u is at is_target at_target on true there e f = by_same (same a b) refl
    where
      comes_on : carried_out m t d ≡ cond (same a b) (Ok (number 1, m)) (change sets m a (remove s x) >>= λ n. change sets n b (insert u x tt) >>= λ o. Ok (number 1, o))
      comes_on = on ∙ ap (λ y. cond (not y) (Ok (number 0, m)) (cond (same a b) (Ok (number 1, m)) (change sets m a (remove s x) >>= λ n. change sets n b (insert u x tt) >>= λ o. Ok (number 1, o)))) e

      by_same : (y : Bool) → same a b ≡ y → Plans (cond y (quiet until (number 1)) (member_moved t fresh a b x old old_target (Some life) target there))
      by_same true h = idle (number 1) (comes_on ∙ ap (λ y. cond y (Ok (number 1, m)) (change sets m a (remove s x) >>= λ n. change sets n b (insert u x tt) >>= λ o. Ok (number 1, o))) h)
      by_same false h =
          moved_by h life target s u is at e is_target at_target
          (comes_on ∙ ap (λ y. cond y (Ok (number 1, m)) (change sets m a (remove s x) >>= λ n. change sets n b (insert u x tt) >>= λ o. Ok (number 1, o))) h) there f

  -- the source is a set
  by_target : (life : LifeSight) (s : Set) → life_found code.Set (live_at c t a) ≡ Ok (Some life) → at_key sets m a ≡ Ok s → SeesLife sets member_row_of c a (Ok (Some life)) (Ok s)
      → carried_out m t d ≡ (at_key sets m b >>= λ u. move_member m a b x s u)
      → (r : Outcome (Option LifeSight)) → life_found code.Set (live_at c t b) ≡ r → (o : Outcome Set) → at_key sets m b ≡ o → SeesLife sets member_row_of c b r o
      → Plans (moving_member_found c t fresh a b x old old_target (Ok (Some life)) r)
  by_target life s is at sees on (Err e) is_target (Err y) at_target same_error =
      refused e (on ∙ ap (λ r. r >>= λ u. move_member m a b x s u) at_target ∙ ap (λ (z : ReplyError). Err z) (sym same_error))
  by_target life s is at sees on (Ok target) is_target (Err y) at_target odd = absurd odd
  by_target life s is at sees on (Err e) is_target (Ok u) at_target odd = absurd odd
  by_target life s is at sees on (Ok target) is_target (Ok u) at_target sees_target =
      by_member life target s u is at is_target at_target (on ∙ ap (λ r. r >>= λ u. move_member m a b x s u) at_target)
      (has_member c a (Some life) x) (has_member c b target x) (sym (has_member_is c a (Some life) s x sees)) (sym (has_member_is c b target u x sees_target))

  -- anything
  by_source : (r : Outcome (Option LifeSight)) → life_found code.Set (live_at c t a) ≡ r → (o : Outcome Set) → at_key sets m a ≡ o → SeesLife sets member_row_of c a r o
      → Plans (moving_member_found c t fresh a b x old old_target r (life_found code.Set (live_at c t b)))
  by_source (Err e) is (Err y) at same_error =
      refused e (comes_there (error_is_there y at) ∙ ap (λ r. r >>= λ s. at_key sets m b >>= λ u. move_member m a b x s u) at ∙ ap (λ (z : ReplyError). Err z) (sym same_error))
  by_source (Ok found) is (Err y) at odd = absurd odd
  by_source (Err e) is (Ok s) at odd = absurd odd
  by_source (Ok None) is (Ok s) at sees =
      idle (number 0) (comes_here ∙ ap (λ o. cond (is_some o) (at_key sets m a >>= λ s. at_key sets m b >>= λ u. move_member m a b x s u) (Ok (number 0, m))) (held set_stands means a None s is at).0)
  by_source (Ok (Some life)) is (Ok s) at sees =
      let h : HoldsLife sets c t m a life.version s = held set_stands means a (Some life) s is at in
      by_target life s is at sees (comes_there (ap is_some h.there) ∙ ap (λ r. r >>= λ s. at_key sets m b >>= λ u. move_member m a b x s u) at)
      (life_found code.Set (live_at c t b)) refl (at_key sets m b) refl (sees_life set_stands means b)

-- ---- the plan

pub s_move_carries : (c : Rows) (t fresh : ℕ) (a b x : Bytes) (w : ℕ) → IsWithin (cmd.SMove a b x w) → Carries c t fresh (cmd.SMove a b x w) (s_move_plan c t fresh a b x)
unfolding s_move_plan
s_move_carries c t fresh a b x w within = record { plan = plan }
  where
    plan : (m : RedisMap) → Means c t m → IsReady c t fresh (One (cmd.SMove a b x w)) → let p = moving_member_found c t fresh a b x (deadline_in (live_at c t a)) (deadline_in (live_at c t b)) (life_found code.Set (live_at c t a)) (life_found code.Set (live_at c t b)) in IsPlanOf c t fresh m (cmd.SMove a b x w) p.batch p.reply p.until
    plan m means ready =
        by_source means fresh a b x w within ready.fits
        (ready.above a (ap (λ s. s || (same a b || false)) (same_itself a)))
        (ready.above b (ap (λ s. same b a || (s || false)) (same_itself b) ∙ or_true (same b a)))
        (life_found code.Set (live_at c t a)) refl (at_key sets m a) refl (sees_life set_stands means a)
