use Rattle.std.proofs.Common.{◌≡◌, map, string_bytes}
use Rattle.clap.specs.Words.{app_of}
use Rattle.kv_conf.specs.declared.words.WordsFault.TheVariants.{Usage}
use Rattle.kv_conf.proofs.Matches.{fault_is}
use Rattle.kv_conf.proofs.command.parse.Goals as goal

pub returns-in-Err-try_get_matches_from-clause-usage : goal.returns-in-Err-try_get_matches_from-clause-usage
returns-in-Err-try_get_matches_from-clause-usage c =
    λ is.
    let same : c.fault_of.result ≡ Usage = cc is in
    fault_is (app_of c.in-Ok.command) (map (λ w. string_bytes w) c.args.words.now) c.in-Err-try_get_matches_from.error c.in-Ok.ensures c.in-Err-try_get_matches_from.ensures.kinds (c.fault_of.ensures same)
