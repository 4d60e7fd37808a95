-- What the words of a request are read into is within the limits.
use Rattle.std.proofs.Common.{◌≡◌, refl, ℕ, suc, ◌<◌, ◌≤◌, ◌+◌, ◌*◌, Bool, true, false, if◌then◌else◌, nat_lt, List, [], ◌∷◌, length, Option, Some, None, Result, Ok, Err, ap, ◌∙◌, subst, arith}
use Rattle.std.specs.Prelude.{All, ℤ, pos, negsuc, ◌==◌, codes}
use Rattle.std.proofs.lemmas.Bool.Decides.{nat_tests}
use Rattle.std.proofs.lemmas.List.Elements.{All-tail}
use Rattle.std.proofs.lemmas.List.Sums.{sum_by-cons}
use Rattle.kv_base.specs.Map.{Bytes}
use Rattle.kv_base.specs.Number.{read_int}
use Rattle.redis_model.specs.Limits.{IsShort, max_words, max_weight}
use Rattle.redis_model.specs.declared.command.Command.{Command}
use Rattle.redis_model.specs.declared.upkeep.Upkeep.TheVariants as upkeep
use Rattle.cmd_words.specs.Words.{is, weight_of, AreRequestWords}
use Rattle.cmd_words.specs.Table.{alone, level_number, compact_of, kvr, of_session, data_of, read_command, of_no_keys, of_strings, of_keys, of_hashes, of_lists, of_sets, of_sorted_sets}
use Rattle.cmd_words.specs.Parsed.{IsAskable}
use Rattle.cmd_words.specs.declared.fault.FaultKind.{FaultKind}
use Rattle.cmd_words.specs.declared.fault.FaultKind.TheVariants as wrong
use Rattle.cmd_words.specs.declared.parsed.Parsed.{Parsed}
use Rattle.cmd_words.specs.declared.parsed.Parsed.TheVariants.{Data, Multi, Exec, Discard, Quit, Pin, Unpin, Upkeep}
use Rattle.cmd_words.specs.declared.name.Name.{Name}
use Rattle.cmd_words.specs.declared.name.Name.TheVariants as name
use Rattle.cmd_words.specs.declared.session.SessionName.{SessionName}
use Rattle.cmd_words.specs.declared.session.SessionName.TheVariants as session
use Rattle.cmd_words.proofs.Good.{Good, within}
use Rattle.cmd_words.proofs.Families.{no_keys_good, strings_good, keys_good, hashes_good, lists_good, sets_good, sorted_sets_good}
use Rattle.cmd_words.proofs.Parsing.{Parts}

weighs_each : (ws : List Bytes) → 16 * length ws ≤ weight_of ws
weighs_each [] = omega arith
weighs_each (w ∷ ws) = let h = weighs_each ws in let e = sum_by-cons (λ (x : Bytes). length x + 16) w ws in omega arith

-- the words behind the name, and the weight of all
record Behind (words ws : List Bytes) (w : ℕ) : Type 0 where
  pub short : All IsShort ws
  pub few : length ws ≤ max_words
  pub light : w ≤ max_weight
  pub weighed : 16 * length ws ≤ w
  pub all : w ≡ weight_of words

behind : (words ws : List Bytes) (first : Bytes) (w : ℕ) → AreRequestWords words → Parts words first ws → w ≡ weight_of words → Behind words ws w
behind words ws first w r p e =
    let long : length words ≡ suc (length ws) = ap length p.whole in
    let each = weighs_each words in
    let few = r.few in
    let light = r.light in
    record {
      short = All-tail IsShort first ws (subst (All IsShort) p.whole r.short);
      few = omega arith;
      light = omega arith;
      weighed = omega arith;
      all = e;
    }

data_asked : (words ws : List Bytes) (w : ℕ) (r : Result Command FaultKind) (x : Parsed) → Behind words ws w → ((c : Command) → r ≡ Ok c → Good (length ws) w c) → data_of r ≡ Ok x → IsAskable words x
data_asked words ws w (Err e) x b g h = cc
data_asked words ws w (Ok c) x b g h =
    let i = within (length ws) w c (g c refl) b.few b.light b.weighed in
    let e : Data c ≡ x = cc in
    subst (IsAskable words) e (i.0, i.1 ∙ b.all)

-- ---- what is no data command

abbrev read_as : Parsed → Result Parsed FaultKind
read_as p = Ok p

plain_asked : (words : List Bytes) (p x : Parsed) → IsAskable words p → read_as p ≡ Ok x → IsAskable words x
plain_asked words p x h e = let same : p ≡ x = cc in subst (IsAskable words) same h

if_asked : (words : List Bytes) (b : Bool) (p q : Result Parsed FaultKind) (x : Parsed) → (p ≡ Ok x → IsAskable words x) → (q ≡ Ok x → IsAskable words x) → (if b then p else q) ≡ Ok x → IsAskable words x
if_asked words true p q x f g h = f h
if_asked words false p q x f g h = g h

small_is : (z : Option ℤ) (n : ℕ) → level_number z ≡ Some n → n < 4
small_is None n h = cc
small_is (Some (negsuc k)) n h = cc
small_is (Some (pos k)) n h = by (nat_lt k 4) refl h
  where
    by : (b : Bool) → nat_lt k 4 ≡ b → (if b then Some k else None) ≡ Some n → n < 4
    by true e h = let same : k ≡ n = cc in subst (λ (m : ℕ). m < 4) same (grind (arith, nat_tests))
    by false e h = cc

level_asked : (words : List Bytes) (z : Option ℤ) (o : Option ℕ) (x : Parsed) → level_number z ≡ o → compact_of o ≡ Ok x → IsAskable words x
level_asked words z None x e h = cc
level_asked words z (Some n) x e h = plain_asked words (Upkeep (upkeep.Compact (Some n))) x (small_is z n e) h

abbrev refused_as : FaultKind → Result Parsed FaultKind
refused_as e = Err e

no_asked : (words : List Bytes) (e : FaultKind) (x : Parsed) → refused_as e ≡ Ok x → IsAskable words x
no_asked words e x h = cc

kvr_asked : (words ws : List Bytes) (x : Parsed) → kvr ws ≡ Ok x → IsAskable words x
unfolding kvr
kvr_asked words [] x h = cc
kvr_asked words (w ∷ []) x h =
    if_asked words (is (codes "pin") w) _ _ x (plain_asked words Pin x tt)
    (if_asked words (is (codes "unpin") w) _ _ x (plain_asked words Unpin x tt)
    (if_asked words (is (codes "flush") w) _ _ x (plain_asked words (Upkeep upkeep.Flush) x tt)
    (if_asked words (is (codes "compact") w) _ _ x (plain_asked words (Upkeep (upkeep.Compact None)) x tt)
    (if_asked words (is (codes "levels") w) _ _ x (plain_asked words (Upkeep upkeep.Levels) x tt) (no_asked words wrong.Syntax x))))) h
kvr_asked words (w ∷ n ∷ []) x h = if_asked words (is (codes "compact") w) _ _ x (level_asked words (read_int n) (level_number (read_int n)) x refl) (no_asked words wrong.Syntax x) h
kvr_asked words (w ∷ n ∷ m ∷ ws) x h = cc

alone_asked : (words ws : List Bytes) (p x : Parsed) → IsAskable words p → alone p ws ≡ Ok x → IsAskable words x
alone_asked words ws p x h e = if_asked words (length ws == 0) (Ok p) (Err wrong.Arity) x (plain_asked words p x h) (no_asked words wrong.Arity x) e

session_asked : (words ws : List Bytes) (n : SessionName) (x : Parsed) → of_session n ws ≡ Ok x → IsAskable words x
unfolding of_session
session_asked words ws session.Multi x h = alone_asked words ws Multi x tt h
session_asked words ws session.Exec x h = alone_asked words ws Exec x tt h
session_asked words ws session.Discard x h = alone_asked words ws Discard x tt h
session_asked words ws session.Quit x h = alone_asked words ws Quit x tt h
session_asked words ws session.Kvr x h = kvr_asked words ws x h

-- ---- all of them

read_asked : (words ws : List Bytes) (w : ℕ) (n : Name) (x : Parsed) → Behind words ws w → read_command n w ws ≡ Ok x → IsAskable words x
unfolding read_command
read_asked words ws w (name.NoKeys n) x b h = data_asked words ws w (of_no_keys n w ws) x b (λ c k. no_keys_good n (length ws) w ws c b.short (omega arith) k) h
read_asked words ws w (name.Strings n) x b h = data_asked words ws w (of_strings n w ws) x b (λ c k. strings_good n (length ws) w ws c b.short (omega arith) k) h
read_asked words ws w (name.Keys n) x b h = data_asked words ws w (of_keys n w ws) x b (λ c k. keys_good n (length ws) w ws c b.short (omega arith) k) h
read_asked words ws w (name.Hashes n) x b h = data_asked words ws w (of_hashes n w ws) x b (λ c k. hashes_good n (length ws) w ws c b.short (omega arith) k) h
read_asked words ws w (name.Lists n) x b h = data_asked words ws w (of_lists n w ws) x b (λ c k. lists_good n (length ws) w ws c b.short (omega arith) k) h
read_asked words ws w (name.Sets n) x b h = data_asked words ws w (of_sets n w ws) x b (λ c k. sets_good n (length ws) w ws c b.short (omega arith) k) h
read_asked words ws w (name.SortedSets n) x b h = data_asked words ws w (of_sorted_sets n w ws) x b (λ c k. sorted_sets_good n (length ws) w ws c b.short (omega arith) k) h
read_asked words ws w (name.Session n) x b h = session_asked words ws n x h

pub asked : (words ws : List Bytes) (first : Bytes) (w : ℕ) (n : Name) (x : Parsed) → AreRequestWords words → Parts words first ws → w ≡ weight_of words → read_command n w ws ≡ Ok x → IsAskable words x
asked words ws first w n x r p e h = read_asked words ws w n x (behind words ws first w r p e) h
