-- A whole command line: what clap finds in it is what it asks for.
use Rattle.std.proofs.Common.{◌≡◌, refl, inl, inr, Bool, true, false, ◌&&◌, List, [], ◌∷◌, fold, find, Option, Some, None, option_map, option_and_then, is_some, codes, ap, sym, subst, ◌∙◌}
use Rattle.std.specs.List.{list_all, list_any}
use Rattle.std.specs.Str.{bytes_eq}
use Rattle.clap.specs.Walk.{Row, Text, Walk, idle, nothing_held, rows_after, settled, subcommand_or_other, walk_from, walked, finished, answers_to}
use Rattle.clap.specs.Simple.{Shape, built, entered, names_of, subcommand_of}
use Rattle.clap.specs.Kinds.{Kinds, or_else}
use Rattle.clap.specs.Faults.{check_fault, defaults_fault, entered_fault, level_fault, other_fault, settle_fault, step_fault, turn_fault, walk_fault}
use Rattle.clap.proofs.FaultLemmas.{stopped_fault}
use Rattle.clap.proofs.WalkLemmas.{both, walk_stopped}
use Rattle.kv_base.specs.Map.{Bytes}
use Rattle.kv_conf.specs.CommandLine.{Given, asked_line, given, load, only_path, told_words}
use Rattle.kv_conf.specs.Parsed.{answer, found, is_offered, kvr_app, parsed, path_of, told_by, unless}
use Rattle.kv_conf.specs.declared.words.Words.{Words}
use Rattle.kv_conf.specs.declared.words.Words.TheVariants as words
use Rattle.kv_conf.proofs.Steps.{View, leaf, plain_from, same_text, unless_none}
use Rattle.kv_conf.proofs.Options.{keep, unoffered, view, walks}
use Rattle.kv_conf.proofs.Telling.{flip, load_options, load_reads, only_reads}

by_program : (P : Bytes → Type 0) → P (codes "script") → P (codes "drill") → P (codes "load") → P (codes "serve")
    → ((x : Bytes) → bytes_eq (codes "script") x ≡ false → bytes_eq (codes "drill") x ≡ false → bytes_eq (codes "load") x ≡ false → bytes_eq (codes "serve") x ≡ false → P x) → (x : Bytes) → P x
by_program P script drill load serve other x = by_script (bytes_eq (codes "script") x) refl
  where
    by_serve : bytes_eq (codes "script") x ≡ false → bytes_eq (codes "drill") x ≡ false → bytes_eq (codes "load") x ≡ false → (t : Bool) → bytes_eq (codes "serve") x ≡ t → P x
    by_serve s d l true e = subst P (same_text (codes "serve") x e) serve
    by_serve s d l false e = other x s d l e

    by_load : bytes_eq (codes "script") x ≡ false → bytes_eq (codes "drill") x ≡ false → (t : Bool) → bytes_eq (codes "load") x ≡ t → P x
    by_load s d true e = subst P (same_text (codes "load") x e) load
    by_load s d false e = by_serve s d e (bytes_eq (codes "serve") x) refl

    by_drill : bytes_eq (codes "script") x ≡ false → (t : Bool) → bytes_eq (codes "drill") x ≡ t → P x
    by_drill s true e = subst P (same_text (codes "drill") x e) drill
    by_drill s false e = by_load s e (bytes_eq (codes "load") x) refl

    by_script : (t : Bool) → bytes_eq (codes "script") x ≡ t → P x
    by_script true e = subst P (same_text (codes "script") x e) script
    by_script false e = by_drill e (bytes_eq (codes "drill") x) refl

-- ---- the first word

abbrev top : Shape
top = (built kvr_app).top

-- what a walk that has read the first word comes to
abbrev line_of : Text → List Text → Walk → Option (Text × List Row)
line_of name rest w =
    let first = record (walk_from nothing_held) { stopped = Some (name, []) } in
    unless (or_else (or_else (turn_fault top (names_of (built kvr_app)) (walk_from nothing_held) name) (walk_fault top (names_of (built kvr_app)) first rest))
    (or_else (entered_fault (built kvr_app) w.stopped) (or_else (settle_fault [] false w.held) (or_else (defaults_fault (settled [] w.held).rows []) (check_fault top (finished [] w.held) (is_some (entered (built kvr_app) w.stopped)))))))
    (entered (built kvr_app) w.stopped)

abbrev found_as : Text → List Text → List Text → Option (Text × List Row)
found_as name options rest = unless (level_fault (leaf name options) [] nothing_held rest false []) (Some (name, rows_after (leaf name options).rules [] rest))

closed : (k l : Kinds) (x : Option (Text × List Row)) → k ≡ [] → unless (or_else (or_else [] k) (or_else l [])) x ≡ unless l x
closed k l x e = ap (λ (k : Kinds). unless (or_else (or_else [] k) (or_else l [])) x) e ∙ go l
  where
    go : (l : Kinds) → unless (or_else l []) x ≡ unless l x
    go [] = refl
    go (a ∷ ks) = refl

no_walk : (name : Text) (rest : List Text) → walk_fault top (names_of (built kvr_app)) (record (walk_from nothing_held) { stopped = Some (name, []) }) rest ≡ []
no_walk name rest = stopped_fault top (names_of (built kvr_app)) (walk_from nothing_held) (name, []) rest

ends : (name : Text) (rest : List Text) → line_of name rest (fold (walked [] (names_of (built kvr_app))) (record (walk_from nothing_held) { stopped = Some (name, []) }) rest) ≡ line_of name rest (record (walk_from nothing_held) { stopped = Some (name, rest) })
ends name rest = ap (line_of name rest) (sym (walk_stopped [] (names_of (built kvr_app)) (walk_from nothing_held) name [] rest))

script_found : (rest : List Text) → parsed (codes "script" ∷ rest) ≡ found_as (codes "script") (codes "dir" ∷ []) rest
unfolding walked walk_fault defaults_fault
script_found rest = ends (codes "script") rest ∙ closed _ (level_fault (leaf (codes "script") (codes "dir" ∷ [])) [] nothing_held rest false []) _ (no_walk (codes "script") rest)

drill_found : (rest : List Text) → parsed (codes "drill" ∷ rest) ≡ found_as (codes "drill") (codes "dir" ∷ []) rest
unfolding walked walk_fault defaults_fault
drill_found rest = ends (codes "drill") rest ∙ closed _ (level_fault (leaf (codes "drill") (codes "dir" ∷ [])) [] nothing_held rest false []) _ (no_walk (codes "drill") rest)

load_found : (rest : List Text) → parsed (codes "load" ∷ rest) ≡ found_as (codes "load") load_options rest
unfolding walked walk_fault defaults_fault
load_found rest = ends (codes "load") rest ∙ closed _ (level_fault (leaf (codes "load") load_options) [] nothing_held rest false []) _ (no_walk (codes "load") rest)

serve_found : (rest : List Text) → parsed (codes "serve" ∷ rest) ≡ found_as (codes "serve") (codes "conf" ∷ []) rest
unfolding walked walk_fault defaults_fault
serve_found rest = ends (codes "serve") rest ∙ closed _ (level_fault (leaf (codes "serve") (codes "conf" ∷ [])) [] nothing_held rest false []) _ (no_walk (codes "serve") rest)

-- ---- a line of a program

and_unless : (f : Text × List Row → Option Words) (name : Text) (k : Kinds) (rows : List Row) → option_and_then f (unless k (Some (name, rows))) ≡ option_and_then (λ rows. f (name, rows)) (unless k (Some rows))
and_unless f name [] rows = refl
and_unless f name (a ∷ ks) rows = refl

and_then_by : (f : List Given → Option Words) (h : List Row → Option Words) (k : List Given → Option (List Row)) → ((os : List Given) → f os ≡ option_and_then h (k os)) → (g : Option (List Given))
    → option_and_then f g ≡ option_and_then h (option_and_then k g)
and_then_by f h k e None = refl
and_then_by f h k e (Some os) = e os

map_then : (w : Bytes → Words) (n : Text) (r : Option (List Row)) → option_map w (option_and_then (path_of n) r) ≡ option_and_then (λ rows. option_map w (path_of n rows)) r
map_then w n None = refl
map_then w n (Some rows) = refl

-- the program's grammar is that of the rows which clap keeps
abbrev Reads : Text → List Text → Type 0
Reads name options = (os : List Given) → told_words name os ≡ option_and_then (told_by name) (keep name options [] os)

path_reads : (name n : Text) (w : Bytes → Words) (os : List Given) → option_map w (only_path (45 ∷ 45 ∷ n) os) ≡ option_and_then (λ rows. option_map w (path_of n rows)) (keep name (n ∷ []) [] os)
path_reads name n w os = ap (option_map w) (only_reads name n os) ∙ map_then w n (keep name (n ∷ []) [] os)

script_reads : Reads (codes "script") (codes "dir" ∷ [])
script_reads os = path_reads (codes "script") (codes "dir") words.Script os

drill_reads : Reads (codes "drill") (codes "dir" ∷ [])
drill_reads os = path_reads (codes "drill") (codes "dir") words.Drill os

load_told : Reads (codes "load") load_options
load_told os = load_reads (codes "load") os

serve_reads : Reads (codes "serve") (codes "conf" ∷ [])
serve_reads os = path_reads (codes "serve") (codes "conf") words.Serve os

line_reads : (name : Text) (options rest : List Text) → Reads name options → parsed (name ∷ rest) ≡ found_as name options rest → list_all is_offered rest ≡ true → asked_line (name ∷ rest) ≡ option_and_then answer (parsed (name ∷ rest))
line_reads name options rest reads found o =
    and_then_by (told_words name) (told_by name) (keep name options []) reads (given rest)
    ∙ ap (option_and_then (told_by name)) (sym (walks name options rest o []))
    ∙ sym (and_unless answer name (level_fault (leaf name options) [] nothing_held rest false []) (rows_after (leaf name options).rules [] rest))
    ∙ ap (option_and_then answer) (sym found)

line_refused : (name : Text) (options rest : List Text) → Reads name options → list_any (λ m. bytes_eq (45 ∷ 45 ∷ m) (45 ∷ 45 ∷ [])) options ≡ false → list_all is_offered rest ≡ false → asked_line (name ∷ rest) ≡ None
line_refused name options rest reads none o =
    and_then_by (told_words name) (told_by name) (keep name options []) reads (given rest)
    ∙ ap (option_and_then (told_by name)) (unoffered name options none rest o [])

-- ---- a line of no program

untold : (x : Bytes) (rest : List Bytes) → bytes_eq (codes "script") x ≡ false → bytes_eq (codes "drill") x ≡ false → bytes_eq (codes "load") x ≡ false → bytes_eq (codes "serve") x ≡ false → asked_line (x ∷ rest) ≡ None
untold x rest s d l v = go (given rest)
  where
    no_words : (os : List Given) → told_words x os ≡ None
    no_words os = rw (flip x (codes "script") ∙ s, flip x (codes "drill") ∙ d, flip x (codes "load") ∙ l, flip x (codes "serve") ∙ v) refl

    go : (g : Option (List Given)) → option_and_then (told_words x) g ≡ None
    go None = refl
    go (Some os) = no_words os

-- the turn of a first word that comes to this subcommand
abbrev turn_of : Text → Option Text → Kinds
turn_of x named =
    let met = subcommand_or_other [] named idle 1 x nothing_held in
    or_else (other_fault top named x nothing_held) (step_fault top 1 met.0 met.1)

turn_fails : (x : Text) → View x → (k : Kinds) (y : Option (Text × List Row)) → unless (or_else (turn_of x None) k) y ≡ None
turn_fails x (inl plain) k y =
    let p = plain_from x plain in
    rw (p.no_end, p.no_long, p.no_short) refl
turn_fails x (inr long) k y = subst (λ (w : Text). unless (or_else (turn_of w None) k) y ≡ None) (sym long.1.1) refl

fails_first : (t k l : Kinds) (y : Option (Text × List Row)) → ((k : Kinds) → unless (or_else t k) y ≡ None) → unless (or_else (or_else t k) l) y ≡ None
fails_first [] k l y h = h (or_else k l)
fails_first (a ∷ ks) k l y h = refl

no_program : (x : Bytes) → bytes_eq (codes "script") x ≡ false → bytes_eq (codes "drill") x ≡ false → bytes_eq (codes "load") x ≡ false → bytes_eq (codes "serve") x ≡ false
    → option_map (λ (s : Text × List Text). s.0) (find (answers_to x) (names_of (built kvr_app))) ≡ None
no_program x s d l v = rw (s, d, l, v) refl

unfound : (x : Bytes) (rest : List Bytes) → View x → bytes_eq (codes "script") x ≡ false → bytes_eq (codes "drill") x ≡ false → bytes_eq (codes "load") x ≡ false → bytes_eq (codes "serve") x ≡ false → parsed (x ∷ rest) ≡ None
unfolding walk_fault
unfound x rest view s d l v =
    fails_first (turn_fault top (names_of (built kvr_app)) (walk_from nothing_held) x) _ _ (subcommand_of kvr_app (x ∷ rest))
    (λ k. ap (λ (n : Option Text). unless (or_else (turn_of x n) k) (subcommand_of kvr_app (x ∷ rest))) (no_program x s d l v) ∙ turn_fails x view k (subcommand_of kvr_app (x ∷ rest)))

-- ---- any line

abbrev Asks : Bytes → List Bytes → Type 0
Asks x rest = asked_line (x ∷ rest) ≡ option_and_then answer (parsed (x ∷ rest))

program_reads : (rest : List Bytes) → list_all is_offered rest ≡ true → (x : Bytes) → is_offered x ≡ true → Asks x rest
program_reads rest o = by_program (λ (x : Bytes). is_offered x ≡ true → Asks x rest)
    (λ _. line_reads (codes "script") (codes "dir" ∷ []) rest script_reads (script_found rest) o)
    (λ _. line_reads (codes "drill") (codes "dir" ∷ []) rest drill_reads (drill_found rest) o)
    (λ _. line_reads (codes "load") load_options rest load_told (load_found rest) o)
    (λ _. line_reads (codes "serve") (codes "conf" ∷ []) rest serve_reads (serve_found rest) o)
    (λ x s d l v p. untold x rest s d l v ∙ sym (ap (option_and_then answer) (unfound x rest (view x p) s d l v)))

-- where clap may see the words, a line asks for what clap finds in it
pub line : (words : List Bytes) → list_all is_offered words ≡ true → asked_line words ≡ found words
line [] o = sym (ap (option_and_then answer) (unless_none _))
line (x ∷ rest) o = program_reads rest (both _ _ o).1 x (both _ _ o).0

program_refused : (rest : List Bytes) (x : Bytes) → (is_offered x && list_all is_offered rest) ≡ false → asked_line (x ∷ rest) ≡ None
program_refused rest = by_program (λ (x : Bytes). (is_offered x && list_all is_offered rest) ≡ false → asked_line (x ∷ rest) ≡ None)
    (λ o. line_refused (codes "script") (codes "dir" ∷ []) rest script_reads refl o)
    (λ o. line_refused (codes "drill") (codes "dir" ∷ []) rest drill_reads refl o)
    (λ o. line_refused (codes "load") load_options rest load_told refl o)
    (λ o. line_refused (codes "serve") (codes "conf" ∷ []) rest serve_reads refl o)
    (λ x s d l v o. untold x rest s d l v)

-- and others ask for nothing
pub line_unoffered : (words : List Bytes) → list_all is_offered words ≡ false → asked_line words ≡ None
line_unoffered [] o = refl
line_unoffered (x ∷ rest) o = program_refused rest x o
