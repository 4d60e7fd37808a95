-- The words of a request as its first word and those behind it.
use Rattle.std.proofs.Common.{◌≡◌, ℕ, List, [], ◌∷◌, Option, Some, None, Result, Ok, Err, ap, sym, subst, ◌∙◌}
use Rattle.std.specs.Prelude.{slice_get}
use Rattle.std.specs.List.{remove}
use Rattle.kv_base.specs.Map.{Bytes}
use Rattle.cmd_words.specs.Words.{lower, weight_of}
use Rattle.cmd_words.specs.Names.{named}
use Rattle.cmd_words.specs.Reading.{IsToldOrNoMem}
use Rattle.cmd_words.specs.Table.{read_command}
use Rattle.cmd_words.specs.Parsed.{named_fault, by_name, after_name, parsed_as, MayRunOut, IsParsed}
use Rattle.cmd_words.specs.declared.name.Name.{Name}
use Rattle.cmd_words.specs.declared.fault.FaultKind.{FaultKind}
use Rattle.cmd_words.specs.declared.fault.FaultKind.TheVariants as wrong
use Rattle.cmd_words.specs.declared.fault.CommandFault.{CommandFault}
use Rattle.cmd_words.specs.declared.fault.CommandFault.TheVariants as fault
use Rattle.cmd_words.specs.declared.parsed.Parsed.{Parsed}
use Rattle.cmd_words.specs.declared.parsed.Parsed.TheVariants.{Data}

-- the words are a first one and the others
pub record Parts (words : List Bytes) (first : Bytes) (rest : List Bytes) : Type 0 where
  pub whole : words ≡ first ∷ rest

pub parts : (words rest : List Bytes) (first : Bytes) → slice_get words 0 ≡ Some first → rest ≡ remove words 0 → Parts words first rest
parts [] rest first h e = cc
parts (w ∷ words) rest first h e = record { whole = cc }

behind_is : (words rest : List Bytes) (first : Bytes) → Parts words first rest → parsed_as words ≡ after_name first rest (named first)
unfolding parsed_as
behind_is words rest first p = ap parsed_as p.whole

pub unknown : (words rest : List Bytes) (first : Bytes) (o : Option Name) → Parts words first rest → o ≡ named first → o ≡ None → parsed_as words ≡ Err fault.Unknown
unknown words rest first o p h e = behind_is words rest first p ∙ ap (after_name first rest) (sym h ∙ e)

known : (words rest : List Bytes) (first : Bytes) (o : Option Name) (n : Name) (weight : ℕ) → Parts words first rest → o ≡ named first → o ≡ Some n → weight ≡ weight_of words → parsed_as words ≡ by_name (lower first) (read_command n weight rest)
known words rest first o n weight p h e k =
    behind_is words rest first p ∙ ap (after_name first rest) (sym h ∙ e) ∙ ap (λ w. by_name (lower first) (read_command n w rest)) (sym (k ∙ ap weight_of p.whole))

pub done : (words rest : List Bytes) (first : Bytes) (o : Option Name) (n : Name) (weight : ℕ) (x : Parsed) → Parts words first rest → o ≡ named first → o ≡ Some n → weight ≡ weight_of words → read_command n weight rest ≡ Ok x → parsed_as words ≡ Ok x
done words rest first o n weight x p h e k d = known words rest first o n weight p h e k ∙ ap (by_name (lower first)) d

may_be_named : (name : Bytes) (t : Result Parsed FaultKind) → MayRunOut t → MayRunOut (by_name name t)
may_be_named name (Ok (Data c)) m = tt
may_be_named name (Ok p) m = absurd m
may_be_named name (Err e) m = tt

told_kind : (kind : FaultKind) (name : Bytes) (r : CommandFault) (t : Result Parsed FaultKind) (q : Result Parsed CommandFault) → q ≡ by_name name t → IsToldOrNoMem (Err kind) t → MayRunOut t → IsParsed (Err r) (Err (named_fault name kind)) → IsParsed (Err r) q
told_kind kind name fault.NoMem t q e d may m = subst MayRunOut (sym e) (may_be_named name t may)
told_kind wrong.NoMem name r t q e d may m = cc
told_kind kind name r t q e d may m = e ∙ ap (by_name name) d ∙ m

pub refused : (words rest : List Bytes) (first : Bytes) (o : Option Name) (n : Name) (weight : ℕ) (kind : FaultKind) (r : CommandFault) → Parts words first rest → o ≡ named first → o ≡ Some n → weight ≡ weight_of words → IsToldOrNoMem (Err kind) (read_command n weight rest) → MayRunOut (read_command n weight rest) → IsParsed (Err r) (Err (named_fault (lower first) kind)) → IsParsed (Err r) (parsed_as words)
refused words rest first o n weight kind r p h e k d may m = told_kind kind (lower first) r (read_command n weight rest) (parsed_as words) (known words rest first o n weight p h e k) d may m
