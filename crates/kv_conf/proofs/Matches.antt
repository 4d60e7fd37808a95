-- What clap's clauses say of a parse, over the command of this crate.
use Rattle.std.proofs.Common.{◌≡◌, ◌≢◌, refl, inl, inr, true, List, [], ◌∷◌, Option, None, ap, subst, ◌∙◌}
use Rattle.clap.specs.Values.{kind_of}
use Rattle.clap.specs.Walk.{Row, Text}
use Rattle.clap.specs.Simple.{App, subcommand_of}
use Rattle.clap.specs.Kinds.{HasKind, IsAmong, Kinds}
use Rattle.clap.specs.Faults.{fault_of, is_simple_and_free}
use Rattle.clap.specs.declared.error.Error.{Error}
use Rattle.clap.specs.declared.error.kind.ErrorKind.{ErrorKind}
use Rattle.clap.specs.declared.error.kind.ErrorKind.TheVariants.{OutOfMemory}
use Rattle.kv_base.specs.Map.{Bytes}
use Rattle.kv_conf.specs.Parsed.{kvr_app, parsed, unless}

free : is_simple_and_free kvr_app ≡ true
free = refl

among : (k : ErrorKind) (ks : Kinds) (x : Option (Text × List Row)) → IsAmong k ks → unless ks x ≡ None
among k [] x h = absurd h
among k (a ∷ ks) x h = refl

pub fault_is : (a : App) (line : List Bytes) (e : Error) → a ≡ kvr_app → (is_simple_and_free a ≡ true → HasKind (fault_of a line) e) → kind_of e ≢ OutOfMemory → parsed line ≡ None
fault_is a line e is fails other = go (subst (λ (b : App). HasKind (fault_of b line) e) is (fails (ap is_simple_and_free is ∙ free)))
  where
    go : HasKind (fault_of kvr_app line) e → parsed line ≡ None
    go (inl memory) = absurd (other memory)
    go (inr is) = among (kind_of e) (fault_of kvr_app line) (subcommand_of kvr_app line) is
