-- How much room a command leaves at the ends of a list: what there was but for one place a word.
use Rattle.std.proofs.Common.{◌≡◌, ℕ, ◌+◌, ◌^◌, ◌<◌, ◌≤◌, refl, sym, ap, subst, ◌∙◌, Bool, true, false, cond, length, inl, inr, arith}
use Rattle.std.specs.Prelude.{Option, Some, None, option_and_then}
use Rattle.kv_base.specs.Map.{Bytes, kept, get}
use Rattle.kv_base.specs.InversionLaws.{kept_is}
use Rattle.kv_base.specs.MetaValues.{MetaValue, StringValue, LifeValue, ListValue, read_meta}
use Rattle.batch_codec.specs.Batches.{Batch, after}
use Rattle.redis_model.specs.declared.reply.Reply.{Reply}
use Rattle.redis_model.specs.declared.command.Command.{Command}
use Rattle.redis_model.specs.Value.{Value, Str, Hash, ListOf, SetOf, ZSet, Entry, RedisMap, lives}
use Rattle.redis_model.specs.Apply.{apply}
use Rattle.redis_model.specs.Machine.{apply_alive}
use Rattle.lives_model.specs.Rows.{Rows, meta_key}
use Rattle.lives_model.specs.Clean.{is_live, live_at}
use Rattle.lives_model.specs.Means.{Means, meta_for}
use Rattle.lives_model.specs.Plans.{HasRoom, words, life_after, LeavesEntry, KeyPlan, touches}
use Rattle.lives_model.specs.Issued.{meta_at}
use Rattle.lives_model.specs.StepLaws.{applied, get-alive, live_still, live_gone}
use Rattle.lives_model.specs.IssuedLaws.{meta_put}
use Rattle.lives_model.specs.IssuedLists.{IsLiveOrNew, IsMoved}
use Rattle.lives_model.specs.IssuedListLaws.{list_moved}

-- metadata has the room that it has, and less
pub less_room : (n left : ℕ) (o : Option MetaValue) → left ≤ n → HasRoom n o → HasRoom left o
less_room n left None h room = tt
less_room n left (Some (StringValue expire payload)) h room = tt
less_room n left (Some (LifeValue kind expire version size)) h room = tt
less_room n left (Some (ListValue expire version head tail)) h room = let low = room.0 in let high = room.1 in (omega arith, omega arith)

-- what has expired needs none
room_kept : (n : ℕ) (p : MetaValue → Bool) (o : Option MetaValue) → HasRoom n o → HasRoom n (kept p o)
room_kept n p None room = room
room_kept n p (Some meta) room = by_test (p meta)
  where
    by_test : (b : Bool) → HasRoom n (cond b (Some meta) None)
    by_test true = room
    by_test false = tt

-- a list whose ends have moved has so much less
moved_room : (n left head items : ℕ) (live : Option MetaValue) → n + left ≤ 2 ^ 20 → HasRoom (n + left) live → IsMoved live n head items → (left ≤ head) × ((head + items) + left < 2 ^ 64)
moved_room n left head items live h room moved = by_was moved.was
  where
    by_was : IsLiveOrNew live moved.old_head moved.old_items → (left ≤ head) × ((head + items) + left < 2 ^ 64)
    by_was (inl list) =
        let ends : (n + left ≤ moved.old_head) × ((moved.old_head + moved.old_items) + (n + left) < 2 ^ 64) = subst (HasRoom (n + left)) list.is room in
        let low = moved.low in
        let high = moved.high in
        let start = ends.0 in
        let end = ends.1 in
        (omega arith, omega arith)
    by_was (inr (head_is, none)) =
        let low = moved.low in
        let high = moved.high in
        (omega arith, omega arith)

module _ (c : Rows) (t fresh left : ℕ) (m : RedisMap) (d : Command) (b : Batch) (k : Bytes) (few : words d + left ≤ 2 ^ 20) (room : HasRoom (words d + left) (live_at c t k)) (means : Means c t m) where
  -- the metadata that is put at a touched key
  put_room : (e : Entry) → touches m t d k ≡ true → get (apply_alive m t d).1 k ≡ Some e → LeavesEntry c t fresh m d b k (Some e) → HasRoom left (meta_at (after c b) k)
  put_room e on is l = subst (HasRoom left) (sym (meta_put c b k _ l.meta l.fits)) (by_value e.value refl)
    where
      there : get (apply m t d).1 k ≡ Some e
      there = (kept_is (λ e. lives t e.deadline) (get (apply m t d).1 k) e
          (sym (get-alive (apply m t d).1 t k) ∙ ap (λ (r : Reply × RedisMap). get r.1 k) (sym (applied c t m d means)) ∙ is)).0

      by_value : (v : Value) → e.value ≡ v → HasRoom left (Some (meta_for v (life_after c t fresh m d k v) l.expire))
      by_value (ListOf items) value = moved_room (words d) left _ (length items) (live_at c t k) few room (list_moved c t fresh m d k e items means on there value)
      by_value (Str v) value = tt
      by_value (Hash v) value = tt
      by_value (SetOf v) value = tt
      by_value (ZSet v) value = tt

  -- what is left there
  leaves_room : (o : Option Entry) → touches m t d k ≡ true → get (apply_alive m t d).1 k ≡ o → LeavesEntry c t fresh m d b k o → HasRoom left (live_at (after c b) t k)
  unfolding live_at meta_at
  leaves_room None on is l = subst (HasRoom left) (sym (live_gone c b t k l.meta)) tt
  leaves_room (Some e) on is l = room_kept left (is_live t) (option_and_then read_meta (get (after c b) (meta_key k))) (put_room e on is l)

  -- so a command leaves as much room as there was but for a place for each of its words
  pub step_room : KeyPlan c t fresh m d b k → HasRoom left (live_at (after c b) t k)
  step_room (inl p) = subst (HasRoom left) (sym (live_still c b t k p.1.meta)) (less_room (words d + left) left (live_at c t k) (omega arith) room)
  step_room (inr p) = leaves_room (get (apply_alive m t d).1 k) p.0 refl p.1
