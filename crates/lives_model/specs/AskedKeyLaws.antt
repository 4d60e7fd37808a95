-- The keys of commands that can be asked for are within the limit of keys.
use Rattle.std.proofs.Common.{◌≡◌, List, [], ◌∷◌, sym, subst, ◌∙◌, true, arith}
use Rattle.std.proofs.lemmas.Bool.Decides.{nat_tests}
use Rattle.std.proofs.lemmas.List.Elements.{All-head, All-tail}
use Rattle.std.specs.Prelude.{All, IsTrue}
use Rattle.kv_base.specs.Map.{Bytes, same, same_is}
use Rattle.kv_base.specs.RawKeys.{is_key}
use Rattle.redis_model.specs.declared.command.Command.{Command}
use Rattle.redis_model.specs.declared.command.Cmds.{Cmds}
use Rattle.redis_model.specs.declared.command.Cmds.TheVariants.{One, Many}
use Rattle.redis_model.specs.Keys.{among}
use Rattle.redis_model.specs.About.{keys_of}
use Rattle.redis_model.specs.Limits.{IsName}
use Rattle.lives_model.specs.Plans.{IsAsked, AreAsked, keys_of_each, keys_in}
use Rattle.lives_model.specs.WrittenKeyLaws.{among-append, either_passed}

-- a key of a request fits into a raw key
pub name_is_key : (k : Bytes) → IsName k → IsTrue (is_key k)
name_is_key k h = grind (arith, nat_tests)

-- so does each of these
pub names_are_short : (ks : List Bytes) (k : Bytes) → All IsName ks → IsTrue (among ks k) → IsTrue (is_key k)
names_are_short [] k names h = cc
names_are_short (q ∷ ks) k names h =
    either_passed (same k q) (among ks k) h
    (λ is. subst (λ (x : Bytes). is_key x ≡ true) (sym (same_is k q is)) (name_is_key q (All-head IsName q ks names)))
    (λ behind. names_are_short ks k (All-tail IsName q ks names) behind)

-- and each that several commands name
each_named : (ds : List Command) (k : Bytes) → All IsAsked ds → IsTrue (among (keys_of_each ds) k) → IsTrue (is_key k)
each_named [] k asked h = cc
each_named (d ∷ ds) k asked h =
    either_passed (among (keys_of d) k) (among (keys_of_each ds) k) (sym (among-append (keys_of d) (keys_of_each ds) k) ∙ h)
    (λ here. names_are_short (keys_of d) k (All-head IsAsked d ds asked).0.names here)
    (λ behind. each_named ds k (All-tail IsAsked d ds asked) behind)

-- the keys of commands that can be asked for
pub asked_keys : (ds : Cmds) (k : Bytes) → AreAsked ds → IsTrue (among (keys_in ds) k) → IsTrue (is_key k)
asked_keys (One d) k asked h = names_are_short (keys_of d) k asked.0.names h
asked_keys (Many ds) k asked h = each_named ds k asked.1 h
