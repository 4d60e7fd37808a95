use Rattle.std.proofs.Common.{◌≡◌, refl, ◌<◌, ◌≤◌, ℕ, ◌-◌, List, Bool, true, T, length, Ok, Err, IfOk, IfErr, rules, ap, sym, subst, ◌∙◌, arith, get_or}
use Rattle.std.specs.Prelude.{Result}
use Rattle.std.specs.List.{HoldsAt}
use Rattle.std.specs.List.Sorted.{IsPartitionPoint, IsBinarySearchResult, IsSearchInRange}
use Rattle.std.specs.declared.cmp.Ordering.{Ordering}
use Rattle.std.specs.declared.cmp.Ordering.TheVariants.{Less, Equal, Greater}
use Rattle.std.specs.Ordering.{is_lt}
use Rattle.std.specs.FinMap.Entries.{is_sorted}
use Rattle.std.proofs.lemmas.Fn.{always_returns_same}
use Rattle.kv_base.specs.Map.{Bytes, byte_cmp}
use Rattle.batch_codec.specs.declared.slot.Entry.{Entry}
use Rattle.batch_codec.specs.Slots.{slot_entry, slot_entries}
use Rattle.batch_codec.specs.BatchMaps.{IsBetween}
use Rattle.batch_codec.specs.EntryListLaws.{rises, past_last}
use Rattle.batch_codec.proofs.place.place.Goals as goal

is_less : (o : Ordering) (b : Bool) → b ≡ is_lt o → b ≡ true → o ≡ Less
is_less Less b e t = refl
is_less Equal b e t = absurd (cc)
is_less Greater b e t = absurd (cc)

found : (raw : Bytes) (xs : List Entry) (r : Result ℕ ℕ) → IsSearchInRange r (length xs) → IsBinarySearchResult (λ e. byte_cmp e.raw raw) xs r
    → IfOk r (λ at. (at < length xs) × HoldsAt (λ e. byte_cmp e.raw raw ≡ Equal) xs at)
found raw xs (Ok at) bound place = (bound, place)
found raw xs (Err at) bound place = tt

absent : (raw : Bytes) (xs : List Entry) (r : Result ℕ ℕ) → T (is_sorted byte_cmp (slot_entries xs)) → IsSearchInRange r (length xs) → IsBinarySearchResult (λ e. byte_cmp e.raw raw) xs r
    → IfErr r (λ at. (at ≤ length xs) × IsPartitionPoint (λ e. byte_cmp e.raw raw ≡ Less) (λ e. byte_cmp e.raw raw ≡ Greater) xs at)
absent raw xs (Ok at) h bound place = tt
absent raw xs (Err at) h bound place = (bound, place (rises slot_entry raw xs h))

behind : (raw : Bytes) (xs : List Entry) (last : Entry) → T (is_sorted byte_cmp (slot_entries xs)) → ((d : Entry) → last ≡ get_or xs (length xs - 1) d) → byte_cmp last.raw raw ≡ Less → IsBetween xs raw (length xs)
behind raw xs last h is less = (omega arith, past_last slot_entry raw xs h (λ d. subst (λ (e : Entry). byte_cmp e.raw raw ≡ Less) (is d) less))

pub returns-in-Some-clause-absent : goal.returns-in-Some-clause-absent
returns-in-Some-clause-absent c = behind c.args.raw.now c.args.entries.now c.in-Some.last.now c.requires (λ d. c.in-Some.ensures.item.4 (omega arith) d)
    (sym (c.cmp.ensures ∙ ap (λ b. byte_cmp b c.args.raw.now) c.bytes.ensures) ∙ is_less c.cmp.result c.is_lt.result c.is_lt.ensures c.if-is_lt.true)

pub returns-in_default-clause-found : goal.returns-in_default-clause-found
returns-in_default-clause-found c =
    let facts = c.binary_search_by.ensures in
    found c.args.raw.now c.args.entries.now _ facts.bound (facts.position (λ e. byte_cmp e.raw c.args.raw.now) (always_returns_same _ _ _ (λ a r f called. search rules)))

pub returns-in_default-clause-absent : goal.returns-in_default-clause-absent
returns-in_default-clause-absent c =
    let facts = c.binary_search_by.ensures in
    absent c.args.raw.now c.args.entries.now _ c.requires facts.bound (facts.position (λ e. byte_cmp e.raw c.args.raw.now) (always_returns_same _ _ _ (λ a r f called. search rules)))
