-- The bytes of a manifest's records: a head says a whole state, an edit what changes.
use Rattle.std.specs.Prelude.{◌≡◌, ℕ, ◌<◌, ◌^◌, true, length, if◌then◌else◌, ◌==◌, List, [], ◌∷◌, ◌++◌, Option, Some, None, option_and_then}
use Rattle.kv_base.specs.Map.{Bytes, kept}
use Rattle.kv_base.specs.Fields.{u64, text, read_u64, read_text}
use Rattle.kv_base.specs.declared.name.TableId.{TableId}
use Rattle.level_set.specs.declared.edit.Edit.{Edit}
use Rattle.level_set.specs.declared.home.Home.{Home}
use Rattle.edit_codec.specs.declared.state.State.{State}
use Rattle.edit_codec.specs.Codecs.{Reader, EachFits, read_byte, read_both, read_as, read_list, read_whole, list_text}
use Rattle.edit_codec.specs.States.{is_edit, is_state_head}

-- ---- the bytes

abbrev pub id_text : TableId → Bytes
id_text id = u64 id.run ++ u64 id.part

-- the level, the name, how many rows and bytes, and the least and the greatest raw key
abbrev pub home_text : Home → Bytes
home_text home = home.level ∷ (id_text home.desc.id ++ (u64 home.desc.rows ++ (u64 home.desc.bytes ++ (text home.desc.least ++ text home.desc.greatest))))

abbrev pub numbers_text : ℕ → ℕ → ℕ → ℕ → Bytes
numbers_text log last floor next_run = u64 log ++ (u64 last ++ (u64 floor ++ u64 next_run))

-- the byte 1, the numbers, the names of the tables that go, and the tables that come
unfoldable pub edit_text : Edit → Bytes
edit_text edit = 1 ∷ (numbers_text edit.log edit.last edit.floor edit.next_run ++ (list_text id_text edit.removed ++ list_text home_text edit.added))

-- the byte 0, the epoch, the numbers, and the tables
unfoldable pub state_head_text : State → Bytes
state_head_text state = 0 ∷ (u64 state.epoch ++ (numbers_text state.log state.last state.floor state.next_run ++ list_text home_text state.levels))

-- ---- back

abbrev pub IdParts : Type 0
IdParts = ℕ × ℕ

abbrev pub id_of_parts : IdParts → TableId
id_of_parts p = record { run = p.0; part = p.1 }

abbrev pub read_id : Reader TableId
read_id = read_as id_of_parts (read_both read_u64 read_u64)

abbrev pub HomeParts : Type 0
HomeParts = ℕ × (TableId × (ℕ × (ℕ × (Bytes × Bytes))))

abbrev pub home_of : HomeParts → Home
home_of p = record { level = p.0; desc = record { id = p.1.0; rows = p.1.1.0; bytes = p.1.1.1.0; least = p.1.1.1.1.0; greatest = p.1.1.1.1.1 } }

unfoldable pub read_home : Reader Home
read_home = read_as home_of (read_both read_byte (read_both read_id (read_both read_u64 (read_both read_u64 (read_both read_text read_text)))))

abbrev pub Numbers : Type 0
Numbers = ℕ × (ℕ × (ℕ × ℕ))

unfoldable pub read_numbers : Reader Numbers
read_numbers = read_both read_u64 (read_both read_u64 (read_both read_u64 read_u64))

abbrev pub EditParts : Type 0
EditParts = Numbers × (List TableId × List Home)

abbrev pub edit_of : EditParts → Edit
edit_of p = record { log = p.0.0; last = p.0.1.0; floor = p.0.1.1.0; next_run = p.0.1.1.1; removed = p.1.0; added = p.1.1 }

abbrev pub HeadParts : Type 0
HeadParts = ℕ × (Numbers × List Home)

abbrev pub head_of : HeadParts → State
head_of p = record { epoch = p.0; log = p.1.0.0; last = p.1.0.1.0; floor = p.1.0.1.1.0; next_run = p.1.0.1.1.1; levels = p.1.1 }

unfoldable pub read_edit_parts : Bytes → Option Edit
read_edit_parts = read_whole (read_as edit_of (read_both read_numbers (read_both (read_list read_id) (read_list read_home))))

unfoldable pub read_head_parts : Bytes → Option State
read_head_parts = read_whole (read_as head_of (read_both read_u64 (read_both read_numbers (read_list read_home))))

-- what is behind this byte
abbrev pub behind_mark : ℕ → Bytes → Option Bytes
behind_mark mark [] = None
behind_mark mark (b ∷ bytes) = if b == mark then Some bytes else None

-- the edit whose body these bytes are, if they are one's
unfoldable pub read_edit : Bytes → Option Edit
read_edit bytes = kept is_edit (option_and_then read_edit_parts (behind_mark 1 bytes))

-- the state that a head with these bytes says, if they are one's
unfoldable pub read_state_head : Bytes → Option State
read_state_head bytes = kept is_state_head (option_and_then read_head_parts (behind_mark 0 bytes))

-- ---- what fits its fields

abbrev pub Fits64 : ℕ → Type 0
Fits64 n = n < 2 ^ 64

abbrev pub Fits32 : Bytes → Type 0
Fits32 t = length t < 2 ^ 32

abbrev pub FitsId : TableId → Type 0
FitsId id = Fits64 id.run × Fits64 id.part

abbrev pub FitsHome : Home → Type 0
FitsHome home = Unit {0} × (FitsId home.desc.id × (Fits64 home.desc.rows × (Fits64 home.desc.bytes × (Fits32 home.desc.least × Fits32 home.desc.greatest))))

abbrev pub FitsNumbers : Numbers → Type 0
FitsNumbers n = Fits64 n.0 × (Fits64 n.1.0 × (Fits64 n.1.1.0 × Fits64 n.1.1.1))

abbrev pub FitList : {X : Type 0} → (X → Type 0) → List X → Type 0
FitList fits xs = (length xs < 2 ^ 32) × EachFits fits xs

abbrev pub FitsEdit : Edit → Type 0
FitsEdit edit = FitsNumbers (edit.log, (edit.last, (edit.floor, edit.next_run))) × (FitList FitsId edit.removed × FitList FitsHome edit.added)

abbrev pub FitsHead : State → Type 0
FitsHead state = Fits64 state.epoch × (FitsNumbers (state.log, (state.last, (state.floor, state.next_run))) × FitList FitsHome state.levels)

-- the bytes of an edit within its limits, whose numbers fit their fields
pub record IsEditOf (bytes : Bytes) (edit : Edit) : Type 0 where
  pub spelled : bytes ≡ edit_text edit
  pub limits : is_edit edit ≡ true
  pub fits : FitsEdit edit

-- the same of the head that says a state
pub record IsHeadOf (bytes : Bytes) (state : State) : Type 0 where
  pub spelled : bytes ≡ state_head_text state
  pub limits : is_state_head state ≡ true
  pub fits : FitsHead state
