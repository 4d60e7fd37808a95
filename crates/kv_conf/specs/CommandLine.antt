-- The command lines of the programs.
use Rattle.std.specs.Prelude.{ℕ, ◌==◌, Bool, false, if◌then◌else◌, Option, Some, None, option_map, option_and_then, List, [], ◌∷◌, find, codes}
use Rattle.std.specs.List.{before_first, after_first, list_any}
use Rattle.std.specs.Str.{bytes_eq}
use Rattle.kv_base.specs.Map.{Bytes}
use Rattle.kv_base.specs.Unsigned.{read_u64}
use Rattle.kv_conf.specs.declared.words.Words.{Words}
use Rattle.kv_conf.specs.declared.words.Words.TheVariants as words

-- ---- options

-- an option's name, with its dashes, and the value that it is given
abbrev pub Given : Type 0
Given = Bytes × Bytes

-- `=`, which stands between a name and a value in one word
abbrev pub is_equals : ℕ → Bool
is_equals b = b == 61

abbrev pub has_equals : Bytes → Bool
has_equals = list_any is_equals

-- a word with a `=`, parted at its first
abbrev pub parted : Bytes → Given
parted word = (before_first is_equals word, after_first is_equals word)

-- a word that begins with `-`, which is no value of a word in front of it
abbrev pub is_dashed : Bytes → Bool
is_dashed [] = false
is_dashed (b ∷ bs) = b == 45

abbrev pub and_then : Given → Option (List Given) → Option (List Given)
and_then option = option_map (λ more. option ∷ more)

-- What the words give, in their order, where they are options: each `--x=v`, or `--x` and then a word v that does not
-- begin with `-`.
abbrev pub given : List Bytes → Option (List Given)
given [] = Some []
given (word ∷ []) = if has_equals word then Some (parted word ∷ []) else None
given (word ∷ value ∷ rest) =
    if has_equals word then and_then (parted word) (given (value ∷ rest))
    else if is_dashed value then None
    else and_then (word, value) (given rest)

-- ---- what a program is told

-- a path, which is not empty
abbrev pub path : Bytes → Option Bytes
path [] = None
path (b ∷ bs) = Some (b ∷ bs)

-- the value of the option of this name
abbrev pub value_of : Bytes → List Given → Option Bytes
value_of name options = option_map (λ option. option.1) (find (λ option. bytes_eq option.0 name) options)

-- the path that the only option gives, which has this name
abbrev pub only_path : Bytes → List Given → Option Bytes
only_path name (option ∷ []) = if bytes_eq option.0 name then path option.1 else None
only_path name _ = None

-- options, if they are three
abbrev pub three : List Given → Option (List Given)
three (a ∷ b ∷ c ∷ []) = Some (a ∷ b ∷ c ∷ [])
three _ = None

abbrev pub load_of : Option Bytes → Option ℕ → Option ℕ → Option Words
load_of (Some dir) (Some seed) (Some count) = Some (words.Load dir seed count)
load_of _ _ _ = None

-- a folder and two numbers, where each of these options is given
abbrev pub load_among : List Given → Option Words
load_among options = load_of
    (option_and_then path (value_of (codes "--dir") options))
    (option_and_then read_u64 (value_of (codes "--seed") options))
    (option_and_then read_u64 (value_of (codes "--count") options))

-- Three options, in any order. As each of the three names is found, it stands there once.
abbrev pub load : List Given → Option Words
load options = option_and_then load_among (three options)

-- what the program of this name is told by its options
abbrev pub told_words : Bytes → List Given → Option Words
told_words program options =
    if bytes_eq program (codes "script") then option_map words.Script (only_path (codes "--dir") options)
    else if bytes_eq program (codes "drill") then option_map words.Drill (only_path (codes "--dir") options)
    else if bytes_eq program (codes "load") then load options
    else if bytes_eq program (codes "serve") then option_map words.Serve (only_path (codes "--conf") options)
    else None

-- What a command line asks for, if it is on the grammar: a program, and then each of its options exactly once.
abbrev pub asked_line : List Bytes → Option Words
asked_line [] = None
asked_line (program ∷ rest) = option_and_then (told_words program) (given rest)
