-- What clap makes of a command line, and what it comes to.
use Rattle.std.specs.Prelude.{ℕ, ◌||◌, Bool, true, not, Option, Some, None, option_map, option_and_then, List, [], ◌∷◌, codes, if◌then◌else◌}
use Rattle.std.specs.Str.{bytes_eq}
use Rattle.clap.specs.Lexer.{is_long_word}
use Rattle.clap.specs.Words.{App, Kinds, Row, Rule, Text, fault_of, first_of, new_app, new_rule, subcommand_of, with_rule, with_subcommand}
use Rattle.kv_base.specs.Map.{Bytes}
use Rattle.kv_base.specs.Unsigned.{read_u64}
use Rattle.kv_conf.specs.CommandLine.{is_dashed, path, load_of}
use Rattle.kv_conf.specs.declared.words.Words.{Words}
use Rattle.kv_conf.specs.declared.words.Words.TheVariants as words

-- a word that clap may see: no `-` in front, or two of them and more behind
abbrev pub is_offered : Bytes → Bool
is_offered word = not (is_dashed word) || is_long_word word

-- ---- the command

-- an option `--name`, which has to be there once, with one value
abbrev pub option_rule : Text → Rule
option_rule name = record (new_rule name) { long = Some name; required = true }

abbrev pub program : Text → Text → App
program name option = with_rule (new_app name) (option_rule option)

abbrev pub load_program : App
load_program = with_rule (with_rule (program (codes "load") (codes "dir")) (option_rule (codes "seed"))) (option_rule (codes "count"))

-- clap's own flags and words are off
abbrev pub bare : App
bare = record {
  top = record (new_app (codes "kvr")).top { no_binary_name = true; disable_help_flag = true; disable_help_subcommand = true };
  subs = [];
}

abbrev pub with_program : App → App → App
with_program above sub = with_subcommand above sub.top

abbrev pub kvr_app : App
kvr_app = with_program (with_program (with_program (with_program bare
    (program (codes "script") (codes "dir")))
    (program (codes "drill") (codes "dir")))
    load_program)
    (program (codes "serve") (codes "conf"))

-- ---- what it finds

-- something, where nothing is at fault
abbrev pub unless : {X : Type 0} → Kinds → Option X → Option X
unless [] found = found
unless (kind ∷ kinds) found = None

-- the program that clap finds in the words, and the values of its options
abbrev pub parsed : List Bytes → Option (Text × List Row)
parsed line = unless (fault_of kvr_app line) (subcommand_of kvr_app line)

-- ---- what a program is told by the values of its options

abbrev pub path_of : Bytes → List Row → Option Bytes
path_of name rows = option_and_then path (first_of name rows)

abbrev pub number_of : Bytes → List Row → Option ℕ
number_of name rows = option_and_then read_u64 (first_of name rows)

abbrev pub load_by : List Row → Option Words
load_by rows = load_of (path_of (codes "dir") rows) (number_of (codes "seed") rows) (number_of (codes "count") rows)

abbrev pub told_by : Bytes → List Row → Option Words
told_by program rows =
    if bytes_eq program (codes "script") then option_map words.Script (path_of (codes "dir") rows)
    else if bytes_eq program (codes "drill") then option_map words.Drill (path_of (codes "dir") rows)
    else if bytes_eq program (codes "load") then load_by rows
    else if bytes_eq program (codes "serve") then option_map words.Serve (path_of (codes "conf") rows)
    else None

-- what the program that clap finds is told
abbrev pub answer : Text × List Row → Option Words
answer p = told_by p.0 p.1

abbrev pub found : List Bytes → Option Words
found line = option_and_then answer (parsed line)
