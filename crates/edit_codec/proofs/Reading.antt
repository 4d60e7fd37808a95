-- Values that are read one after another.
use Rattle.std.proofs.Common.{◌≡◌, true, false, length, ℕ, suc, List, [], ◌∷◌, ◌++◌, refl, sym, ap, ◌∙◌, Option, Some, None, option_map, option_and_then, append_assoc, arith}
use Rattle.kv_base.specs.Map.{Bytes}
use Rattle.kv_base.specs.InversionLaws.{number_is}
use Rattle.std.specs.Prelude.{◌==◌, if◌then◌else◌}
use Rattle.kv_base.specs.Fields.{read_u64}
use Rattle.kv_base.specs.MetaValues.{is_empty}
use Rattle.kv_base.specs.declared.name.TableId.{TableId}
use Rattle.level_set.specs.declared.home.Home.{Home}
use Rattle.edit_codec.specs.Codecs.{Reader, read_many, read_list, read_onto}
use Rattle.edit_codec.specs.Records.{read_id, read_home, Numbers, read_numbers, edit_of, read_edit_parts, head_of, read_head_parts}

append_none : {X : Type 0} (xs : List X) → xs ++ [] ≡ xs
append_none [] = refl
append_none (x ∷ xs) = ap (λ l. x ∷ l) (append_none xs)

module _ {X : Type 0} (read : Reader X) where
  abbrev step : ℕ → X × Bytes → Option (List X × Bytes)
  step n x = option_map (λ (xs : List X × Bytes). (x.0 ∷ xs.0, xs.1)) (read_many read n x.1)

  read_more : (n : ℕ) (bytes : Bytes) → read_many read (suc n) bytes ≡ option_and_then (step n) (read bytes)
  unfolding read_many
  read_more n bytes = refl

  through : (front : List X) (x : X) (o : Option (List X × Bytes)) → read_onto front (option_map (λ (xs : List X × Bytes). (x ∷ xs.0, xs.1)) o) ≡ read_onto (front ++ x ∷ []) o
  through front x None = refl
  through front x (Some xs) = ap (λ (l : List X). Some (l, xs.1)) (sym (append_assoc front (x ∷ []) xs.0))

  pub one_more : (front more : List X) (left n : ℕ) (bytes behind : Bytes) (x : X) → left ≡ suc n → read bytes ≡ Some (x, behind) → more ≡ front ++ x ∷ []
      → read_onto front (read_many read left bytes) ≡ read_onto more (read_many read n behind)
  one_more front more left n bytes behind x counted is pushed =
      ap (λ (k : ℕ). read_onto front (read_many read k bytes)) counted
      ∙ ap (read_onto front) (read_more n bytes ∙ ap (option_and_then (step n)) is)
      ∙ through front x (read_many read n behind)
      ∙ ap (λ (l : List X). read_onto l (read_many read n behind)) (sym pushed)

  pub no_more : (front : List X) (left n : ℕ) (bytes : Bytes) → left ≡ suc n → read bytes ≡ None → read_onto front (read_many read left bytes) ≡ None
  no_more front left n bytes counted is =
      ap (λ (k : ℕ). read_onto front (read_many read k bytes)) counted ∙ ap (read_onto front) (read_more n bytes ∙ ap (option_and_then (step n)) is)

  pub all_read : (front : List X) (left : ℕ) (bytes : Bytes) → left ≡ 0 → read_onto front (read_many read left bytes) ≡ Some (front, bytes)
  unfolding read_many
  all_read front left bytes counted = ap (λ (k : ℕ). read_onto front (read_many read k bytes)) counted ∙ ap (λ (l : List X). Some (l, bytes)) (append_none front)

pub onto_none : {X : Type 0} (o : Option (List X × Bytes)) → read_onto [] o ≡ o
onto_none None = refl
onto_none (Some x) = refl

-- what was read of a list, where nothing was there before it
pub listed : {X : Type 0} (front : List X) (found read : Option (List X × Bytes)) → front ≡ [] → found ≡ read_onto front read → read ≡ found
listed front found read none is = sym (is ∙ ap (λ l. read_onto l read) none ∙ onto_none read)

-- ---- the parts of an edit

module _ (bytes : Bytes) where
  pub edit_no_numbers : read_numbers bytes ≡ None → read_edit_parts bytes ≡ None
  unfolding read_edit_parts
  edit_no_numbers e = rw e refl

  module _ (n : Numbers) (behind : Bytes) (numbers : read_numbers bytes ≡ Some (n, behind)) where
    pub edit_no_ids : read_list read_id behind ≡ None → read_edit_parts bytes ≡ None
    unfolding read_edit_parts
    edit_no_ids e = rw (numbers, e) refl

    module _ (ids : List TableId) (rest : Bytes) (names : read_list read_id behind ≡ Some (ids, rest)) where
      pub edit_no_homes : read_list read_home rest ≡ None → read_edit_parts bytes ≡ None
      unfolding read_edit_parts
      edit_no_homes e = rw (numbers, names, e) refl

      pub edit_whole : (homes : List Home) (last : Bytes) → read_list read_home rest ≡ Some (homes, last) → read_edit_parts bytes ≡ (if is_empty last then Some (edit_of (n, (ids, homes))) else None)
      unfolding read_edit_parts
      edit_whole homes last e = rw (numbers, names, e) refl

  -- ---- the parts of a head

  pub head_no_epoch : read_u64 bytes ≡ None → read_head_parts bytes ≡ None
  unfolding read_head_parts
  head_no_epoch e = rw e refl

  module _ (epoch : ℕ) (behind : Bytes) (first : read_u64 bytes ≡ Some (epoch, behind)) where
    pub head_no_numbers : read_numbers behind ≡ None → read_head_parts bytes ≡ None
    unfolding read_head_parts
    head_no_numbers e = rw (first, e) refl

    module _ (n : Numbers) (rest : Bytes) (numbers : read_numbers behind ≡ Some (n, rest)) where
      pub head_no_homes : read_list read_home rest ≡ None → read_head_parts bytes ≡ None
      unfolding read_head_parts
      head_no_homes e = rw (first, numbers, e) refl

      pub head_whole : (homes : List Home) (last : Bytes) → read_list read_home rest ≡ Some (homes, last) → read_head_parts bytes ≡ (if is_empty last then Some (head_of (epoch, (n, homes))) else None)
      unfolding read_head_parts
      head_whole homes last e = rw (first, numbers, e) refl

pub nothing_left : (last : Bytes) → (length last == 0) ≡ true → is_empty last ≡ true
nothing_left [] e = refl
nothing_left (b ∷ last) e = let never : length (b ∷ last) ≡ 0 = number_is (length (b ∷ last)) 0 e in absurd (omega (arith, never))

pub something_left : (last : Bytes) → (length last == 0) ≡ false → is_empty last ≡ false
something_left [] e = absurd (cc)
something_left (b ∷ last) e = refl
