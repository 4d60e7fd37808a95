-- A record of a manifest is read back as it was written, and nothing else is read: each has one spelling.
use Rattle.std.proofs.Common.{◌≡◌, ℕ, [], ◌∷◌, ◌++◌, refl, ap, ◌∙◌, Bool, true, Option, Some, option_and_then}
use Rattle.std.specs.Prelude.{◌==◌}
use Rattle.kv_base.specs.Map.{Bytes, kept}
use Rattle.kv_base.specs.Fields.{u64, text, read_u64, read_text}
use Rattle.kv_base.specs.InversionLaws.{same_some, and_then_is, kept_is, if_is, number_is}
use Rattle.kv_base.specs.declared.name.TableId.{TableId}
use Rattle.level_set.specs.declared.edit.Edit.{Edit}
use Rattle.level_set.specs.declared.home.Home.{Home}
use Rattle.edit_codec.specs.declared.state.State.{State}
use Rattle.edit_codec.specs.Codecs.{Anything, Both, read_byte, read_both, read_as, read_list, list_text}
use Rattle.edit_codec.specs.CodecLaws.{IsCodec, spell_both, codec_byte, codec_u64, codec_text, codec_both, codec_as, codec_list, whole_is_read, only_whole_is_read}
use Rattle.edit_codec.specs.States.{is_edit, is_state_head}
use Rattle.edit_codec.specs.Records.{id_text, home_text, numbers_text, edit_text, state_head_text, id_of_parts, read_id, HomeParts, home_of, read_home, Numbers, read_numbers, EditParts, edit_of, HeadParts, head_of, read_edit_parts, read_head_parts, behind_mark, read_edit, read_state_head, Fits64, Fits32, FitsId, FitsHome, FitsNumbers, FitList, FitsEdit, FitsHead, IsEditOf, IsHeadOf}

-- ---- parts

pub codec_id : IsCodec id_text read_id FitsId
codec_id =
    codec_as (spell_both u64 u64) (read_both read_u64 read_u64) (Both Fits64 Fits64) id_of_parts (λ (id : TableId). (id.run, id.part))
    (codec_both u64 read_u64 Fits64 u64 read_u64 Fits64 codec_u64 codec_u64) (λ x. refl) (λ y. refl)

abbrev spell_home : HomeParts → Bytes
spell_home = spell_both (λ (b : ℕ). b ∷ []) (spell_both id_text (spell_both u64 (spell_both u64 (spell_both text text))))

abbrev home_parts : Home → HomeParts
home_parts home = (home.level, (home.desc.id, (home.desc.rows, (home.desc.bytes, (home.desc.least, home.desc.greatest)))))

pub codec_home : IsCodec home_text read_home FitsHome
unfolding read_home
codec_home =
    let keys = codec_both text read_text Fits32 text read_text Fits32 codec_text codec_text in
    let files = codec_both u64 read_u64 Fits64 (spell_both text text) (read_both read_text read_text) (Both Fits32 Fits32) codec_u64 keys in
    let rows = codec_both u64 read_u64 Fits64 (spell_both u64 (spell_both text text)) (read_both read_u64 (read_both read_text read_text)) (Both Fits64 (Both Fits32 Fits32)) codec_u64 files in
    let named = codec_both id_text read_id FitsId (spell_both u64 (spell_both u64 (spell_both text text))) (read_both read_u64 (read_both read_u64 (read_both read_text read_text))) (Both Fits64 (Both Fits64 (Both Fits32 Fits32))) codec_id rows in
    let levelled = codec_both (λ (b : ℕ). b ∷ []) read_byte Anything (spell_both id_text (spell_both u64 (spell_both u64 (spell_both text text)))) (read_both read_id (read_both read_u64 (read_both read_u64 (read_both read_text read_text)))) (Both FitsId (Both Fits64 (Both Fits64 (Both Fits32 Fits32)))) codec_byte named in
    codec_as spell_home (read_both read_byte (read_both read_id (read_both read_u64 (read_both read_u64 (read_both read_text read_text))))) (Both Anything (Both FitsId (Both Fits64 (Both Fits64 (Both Fits32 Fits32))))) home_of home_parts
    levelled (λ x. refl) (λ y. refl)

abbrev spell_numbers : Numbers → Bytes
spell_numbers = spell_both u64 (spell_both u64 (spell_both u64 u64))

pub codec_numbers : IsCodec spell_numbers read_numbers FitsNumbers
unfolding read_numbers
codec_numbers =
    let two = codec_both u64 read_u64 Fits64 u64 read_u64 Fits64 codec_u64 codec_u64 in
    let three = codec_both u64 read_u64 Fits64 (spell_both u64 u64) (read_both read_u64 read_u64) (Both Fits64 Fits64) codec_u64 two in
    codec_both u64 read_u64 Fits64 (spell_both u64 (spell_both u64 u64)) (read_both read_u64 (read_both read_u64 read_u64)) (Both Fits64 (Both Fits64 Fits64)) codec_u64 three

-- ---- edits

abbrev edit_parts : Edit → EditParts
edit_parts edit = ((edit.log, (edit.last, (edit.floor, edit.next_run))), (edit.removed, edit.added))

abbrev edit_behind : Edit → Bytes
edit_behind edit = numbers_text edit.log edit.last edit.floor edit.next_run ++ (list_text id_text edit.removed ++ list_text home_text edit.added)

codec_edit : IsCodec edit_behind (read_as edit_of (read_both read_numbers (read_both (read_list read_id) (read_list read_home)))) FitsEdit
codec_edit =
    let lists = codec_both (list_text id_text) (read_list read_id) (FitList FitsId) (list_text home_text) (read_list read_home) (FitList FitsHome) (codec_list id_text read_id FitsId codec_id) (codec_list home_text read_home FitsHome codec_home) in
    let all = codec_both spell_numbers read_numbers FitsNumbers (spell_both (list_text id_text) (list_text home_text)) (read_both (read_list read_id) (read_list read_home)) (Both (FitList FitsId) (FitList FitsHome)) codec_numbers lists in
    codec_as (spell_both spell_numbers (spell_both (list_text id_text) (list_text home_text))) (read_both read_numbers (read_both (read_list read_id) (read_list read_home))) (Both FitsNumbers (Both (FitList FitsId) (FitList FitsHome))) edit_of edit_parts all (λ x. refl) (λ y. refl)

kept_true : {X : Type 0} (p : X → Bool) (x : X) → p x ≡ true → kept p (Some x) ≡ Some x
kept_true p x is = rw is refl

pub edit_is_read : (edit : Edit) → is_edit edit ≡ true → FitsEdit edit → read_edit (edit_text edit) ≡ Some edit
unfolding read_edit edit_text read_edit_parts
edit_is_read edit is fits =
    ap (λ (o : Option Edit). kept is_edit o) (whole_is_read edit_behind (read_as edit_of (read_both read_numbers (read_both (read_list read_id) (read_list read_home)))) FitsEdit codec_edit edit fits)
    ∙ kept_true is_edit edit is

mark_is : (mark : ℕ) (bytes rest : Bytes) → behind_mark mark bytes ≡ Some rest → bytes ≡ mark ∷ rest
mark_is mark [] rest e = absurd (cc)
mark_is mark (b ∷ bytes) rest e =
    let same = if_is (b == mark) (Some bytes) rest e in
    (λ i. number_is b mark same.0 i ∷ same_some bytes rest same.1 i)

pub only_edit_is_read : (bytes : Bytes) (edit : Edit) → read_edit bytes ≡ Some edit → IsEditOf bytes edit
unfolding read_edit edit_text read_edit_parts
only_edit_is_read bytes edit e =
    let limited = kept_is is_edit (option_and_then read_edit_parts (behind_mark 1 bytes)) edit e in
    let marked = and_then_is read_edit_parts (behind_mark 1 bytes) edit limited.0 in
    let whole = only_whole_is_read edit_behind (read_as edit_of (read_both read_numbers (read_both (read_list read_id) (read_list read_home)))) FitsEdit codec_edit marked.0 edit marked.2 in
    record {
      spelled = mark_is 1 bytes marked.0 marked.1 ∙ ap (λ (l : Bytes). 1 ∷ l) whole.0;
      limits = limited.1;
      fits = whole.1;
    }

-- ---- heads

abbrev head_parts : State → HeadParts
head_parts state = (state.epoch, ((state.log, (state.last, (state.floor, state.next_run))), state.levels))

abbrev head_behind : State → Bytes
head_behind state = u64 state.epoch ++ (numbers_text state.log state.last state.floor state.next_run ++ list_text home_text state.levels)

codec_head : IsCodec head_behind (read_as head_of (read_both read_u64 (read_both read_numbers (read_list read_home)))) FitsHead
codec_head =
    let all = codec_both spell_numbers read_numbers FitsNumbers (list_text home_text) (read_list read_home) (FitList FitsHome) codec_numbers (codec_list home_text read_home FitsHome codec_home) in
    let with_epoch = codec_both u64 read_u64 Fits64 (spell_both spell_numbers (list_text home_text)) (read_both read_numbers (read_list read_home)) (Both FitsNumbers (FitList FitsHome)) codec_u64 all in
    codec_as (spell_both u64 (spell_both spell_numbers (list_text home_text))) (read_both read_u64 (read_both read_numbers (read_list read_home))) (Both Fits64 (Both FitsNumbers (FitList FitsHome))) head_of head_parts with_epoch (λ x. refl) (λ y. refl)

pub head_is_read : (state : State) → is_state_head state ≡ true → FitsHead state → read_state_head (state_head_text state) ≡ Some state
unfolding read_state_head state_head_text read_head_parts
head_is_read state is fits =
    ap (λ (o : Option State). kept is_state_head o) (whole_is_read head_behind (read_as head_of (read_both read_u64 (read_both read_numbers (read_list read_home)))) FitsHead codec_head state fits)
    ∙ kept_true is_state_head state is

pub only_head_is_read : (bytes : Bytes) (state : State) → read_state_head bytes ≡ Some state → IsHeadOf bytes state
unfolding read_state_head state_head_text read_head_parts
only_head_is_read bytes state e =
    let limited = kept_is is_state_head (option_and_then read_head_parts (behind_mark 0 bytes)) state e in
    let marked = and_then_is read_head_parts (behind_mark 0 bytes) state limited.0 in
    let whole = only_whole_is_read head_behind (read_as head_of (read_both read_u64 (read_both read_numbers (read_list read_home)))) FitsHead codec_head marked.0 state marked.2 in
    record {
      spelled = mark_is 0 bytes marked.0 marked.1 ∙ ap (λ (l : Bytes). 0 ∷ l) whole.0;
      limits = limited.1;
      fits = whole.1;
    }
