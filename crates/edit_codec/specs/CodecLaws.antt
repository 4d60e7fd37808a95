-- What is written is read, and nothing else is: for one value, for two, and for many.
use Rattle.std.proofs.Common.{◌≡◌, ℕ, zero, suc, ◌<◌, ◌^◌, List, [], ◌∷◌, ◌++◌, refl, sym, ap, subst, ◌∙◌, true, cond, length, Option, Some, None, option_map, option_and_then, append_assoc, arith}
use Rattle.std.specs.List.{flat_map}
use Rattle.kv_base.specs.Map.{Bytes}
use Rattle.kv_base.specs.Fields.{u32, u64, text, read_u32, read_u64, read_text}
use Rattle.kv_base.specs.FieldLaws.{u32_is_read, u64_is_read, text_is_read, only_u32_is_read, only_u64_is_read, only_text_is_read}
use Rattle.kv_base.specs.InversionLaws.{same_some, and_then_is, map_is, if_is}
use Rattle.kv_base.specs.MetaValues.{is_empty}
use Rattle.edit_codec.specs.Codecs.{Reader, Anything, Both, EachFits, read_byte, read_both, read_as, read_many, read_list, read_whole, list_text}

-- This reader reads what is written so, where it fits, and nothing else.
pub record IsCodec {X : Type 0} (spell : X → Bytes) (read : Reader X) (fits : X → Type 0) : Type 0 where
  pub is_read : (x : X) (rest : Bytes) → fits x → read (spell x ++ rest) ≡ Some (x, rest)
  pub only : (bytes : Bytes) (x : X) (rest : Bytes) → read bytes ≡ Some (x, rest) → (bytes ≡ spell x ++ rest) × fits x

abbrev pub spell_both : {X Y : Type 0} → (X → Bytes) → (Y → Bytes) → X × Y → Bytes
spell_both first second p = first p.0 ++ second p.1

first_is : {X : Type 0} (x y : X) (a b : Bytes) → ◌≡◌ {A = Option (X × Bytes)} (Some (x, a)) (Some (y, b)) → x ≡ y
first_is {X = X} x y a b e = ap (λ (p : X × Bytes). p.0) (same_some (x, a) (y, b) e)

rest_is : {X : Type 0} (x y : X) (a b : Bytes) → ◌≡◌ {A = Option (X × Bytes)} (Some (x, a)) (Some (y, b)) → a ≡ b
rest_is {X = X} x y a b e = ap (λ (p : X × Bytes). p.1) (same_some (x, a) (y, b) e)

-- ---- bytes, numbers and texts

pub codec_byte : IsCodec (λ (b : ℕ). b ∷ []) read_byte Anything
codec_byte = record {
  is_read = λ b rest fits. refl;
  only = λ bytes b rest e. (byte bytes b rest e, tt);
}
  where
    byte : (bytes : Bytes) (b : ℕ) (rest : Bytes) → read_byte bytes ≡ Some (b, rest) → bytes ≡ (b ∷ []) ++ rest
    byte [] b rest e = absurd (cc)
    byte (c ∷ bytes) b rest e = (λ i. first_is c b bytes rest e i ∷ rest_is c b bytes rest e i)

pub codec_u32 : IsCodec u32 read_u32 (λ n. n < 2 ^ 32)
codec_u32 = record { is_read = λ n rest fits. u32_is_read n fits rest; only = only_u32_is_read }

pub codec_u64 : IsCodec u64 read_u64 (λ n. n < 2 ^ 64)
codec_u64 = record { is_read = λ n rest fits. u64_is_read n fits rest; only = only_u64_is_read }

pub codec_text : IsCodec text read_text (λ t. length t < 2 ^ 32)
codec_text = record { is_read = λ t rest fits. text_is_read t fits rest; only = only_text_is_read }

-- ---- two values, and what is made of a value

module _ {X Y : Type 0} (a : X → Bytes) (r : Reader X) (f : X → Type 0) (b : Y → Bytes) (s : Reader Y) (g : Y → Type 0) where
  pub codec_both : IsCodec a r f → IsCodec b s g → IsCodec (spell_both a b) (read_both r s) (Both f g)
  codec_both first second = record { is_read = reads; only = nothing_else }
    where
      behind : X × Bytes → Option ((X × Y) × Bytes)
      behind x = option_map (λ (y : Y × Bytes). ((x.0, y.0), y.1)) (s x.1)

      reads : (p : X × Y) (rest : Bytes) → Both f g p → read_both r s (spell_both a b p ++ rest) ≡ Some (p, rest)
      reads p rest fits =
          ap (λ (bytes : Bytes). option_and_then (λ (x : X × Bytes). option_map (λ (y : Y × Bytes). ((x.0, y.0), y.1)) (s x.1)) (r bytes)) (append_assoc (a p.0) (b p.1) rest)
          ∙ ap (λ (o : Option (X × Bytes)). option_and_then (λ (x : X × Bytes). option_map (λ (y : Y × Bytes). ((x.0, y.0), y.1)) (s x.1)) o) (first.is_read p.0 (b p.1 ++ rest) fits.0)
          ∙ ap (λ (o : Option (Y × Bytes)). option_map (λ (y : Y × Bytes). ((p.0, y.0), y.1)) o) (second.is_read p.1 rest fits.1)

      nothing_else : (bytes : Bytes) (p : X × Y) (rest : Bytes) → read_both r s bytes ≡ Some (p, rest) → (bytes ≡ spell_both a b p ++ rest) × Both f g p
      nothing_else bytes p rest e =
          let x = and_then_is (λ (x : X × Bytes). option_map (λ (y : Y × Bytes). ((x.0, y.0), y.1)) (s x.1)) (r bytes) (p, rest) e in
          let y = map_is (λ (y : Y × Bytes). ((x.0.0, y.0), y.1)) (s x.0.1) (p, rest) x.2 in
          let front = first.only bytes x.0.0 x.0.1 x.1 in
          let back = second.only x.0.1 y.0.0 y.0.1 y.1 in
          let whole : bytes ≡ (a x.0.0 ++ b y.0.0) ++ y.0.1 = front.0 ∙ ap (λ (l : Bytes). a x.0.0 ++ l) back.0 ∙ sym (append_assoc (a x.0.0) (b y.0.0) y.0.1) in
          let P : (X × Y) × Bytes → Type 0 = λ q. (bytes ≡ spell_both a b q.0 ++ q.1) × Both f g q.0 in
          subst P y.2 (whole, (front.1, back.1))

module _ {X Y : Type 0} (a : X → Bytes) (r : Reader X) (f : X → Type 0) (make : X → Y) (parts : Y → X) where
  pub codec_as : IsCodec a r f → ((x : X) → parts (make x) ≡ x) → ((y : Y) → make (parts y) ≡ y) → IsCodec (λ y. a (parts y)) (read_as make r) (λ y. f (parts y))
  codec_as codec back forth = record { is_read = reads; only = nothing_else }
    where
      reads : (y : Y) (rest : Bytes) → f (parts y) → read_as make r (a (parts y) ++ rest) ≡ Some (y, rest)
      reads y rest fits =
          ap (λ (o : Option (X × Bytes)). option_map (λ (x : X × Bytes). (make x.0, x.1)) o) (codec.is_read (parts y) rest fits)
          ∙ ap (λ (z : Y). Some (z, rest)) (forth y)

      nothing_else : (bytes : Bytes) (y : Y) (rest : Bytes) → read_as make r bytes ≡ Some (y, rest) → (bytes ≡ a (parts y) ++ rest) × f (parts y)
      nothing_else bytes y rest e =
          let x = map_is (λ (x : X × Bytes). (make x.0, x.1)) (r bytes) (y, rest) e in
          let read = codec.only bytes x.0.0 x.0.1 x.1 in
          let P : X → Type 0 = λ z. (bytes ≡ a z ++ x.0.1) × f z in
          let made : (bytes ≡ a (parts (make x.0.0)) ++ x.0.1) × f (parts (make x.0.0)) = subst P (sym (back x.0.0)) read in
          let Q : Y × Bytes → Type 0 = λ q. (bytes ≡ a (parts q.0) ++ q.1) × f (parts q.0) in
          subst Q x.2 made

-- ---- many values

module _ {X : Type 0} (a : X → Bytes) (r : Reader X) (f : X → Type 0) where
  many_are_read : IsCodec a r f → (xs : List X) (rest : Bytes) → EachFits f xs → read_many r (length xs) (flat_map a xs ++ rest) ≡ Some (xs, rest)
  unfolding read_many
  many_are_read codec [] rest fits = refl
  many_are_read codec (x ∷ xs) rest fits =
      ap (λ (bytes : Bytes). option_and_then (λ (y : X × Bytes). option_map (λ (ys : List X × Bytes). (y.0 ∷ ys.0, ys.1)) (read_many r (length xs) y.1)) (r bytes)) (append_assoc (a x) (flat_map a xs) rest)
      ∙ ap (λ (o : Option (X × Bytes)). option_and_then (λ (y : X × Bytes). option_map (λ (ys : List X × Bytes). (y.0 ∷ ys.0, ys.1)) (read_many r (length xs) y.1)) o) (codec.is_read x (flat_map a xs ++ rest) fits.0)
      ∙ ap (λ (o : Option (List X × Bytes)). option_map (λ (ys : List X × Bytes). (x ∷ ys.0, ys.1)) o) (many_are_read codec xs rest fits.1)

  pub record AreSpelled (n : ℕ) (bytes : Bytes) (xs : List X) (rest : Bytes) : Type 0 where
    pub spelled : bytes ≡ flat_map a xs ++ rest
    pub count : length xs ≡ n
    pub fit : EachFits f xs

  only_many_are_read : IsCodec a r f → (n : ℕ) (bytes : Bytes) (xs : List X) (rest : Bytes) → read_many r n bytes ≡ Some (xs, rest) → AreSpelled n bytes xs rest
  unfolding read_many
  only_many_are_read codec zero bytes xs rest e =
      let P : List X × Bytes → Type 0 = λ q. AreSpelled zero bytes q.0 q.1 in
      subst P (same_some ([], bytes) (xs, rest) e) (record { spelled = refl; count = refl; fit = tt })
  only_many_are_read codec (suc n) bytes xs rest e =
      let x = and_then_is (λ (y : X × Bytes). option_map (λ (ys : List X × Bytes). (y.0 ∷ ys.0, ys.1)) (read_many r n y.1)) (r bytes) (xs, rest) e in
      let more = map_is (λ (ys : List X × Bytes). (x.0.0 ∷ ys.0, ys.1)) (read_many r n x.0.1) (xs, rest) x.2 in
      let front = codec.only bytes x.0.0 x.0.1 x.1 in
      let behind = only_many_are_read codec n x.0.1 more.0.0 more.0.1 more.1 in
      let P : List X × Bytes → Type 0 = λ q. AreSpelled (suc n) bytes q.0 q.1 in
      subst P more.2 (record {
        spelled = front.0 ∙ ap (λ (l : Bytes). a x.0.0 ++ l) behind.spelled ∙ sym (append_assoc (a x.0.0) (flat_map a more.0.0) more.0.1);
        count = ap suc behind.count;
        fit = (front.1, behind.fit);
      })

  pub codec_list : IsCodec a r f → IsCodec (list_text a) (read_list r) (λ xs. (length xs < 2 ^ 32) × EachFits f xs)
  codec_list codec = record { is_read = reads; only = nothing_else }
    where
      reads : (xs : List X) (rest : Bytes) → (length xs < 2 ^ 32) × EachFits f xs → read_list r (list_text a xs ++ rest) ≡ Some (xs, rest)
      reads xs rest fits =
          ap (λ (bytes : Bytes). option_and_then (λ (n : ℕ × Bytes). read_many r n.0 n.1) (read_u32 bytes)) (append_assoc (u32 (length xs)) (flat_map a xs) rest)
          ∙ ap (λ (o : Option (ℕ × Bytes)). option_and_then (λ (n : ℕ × Bytes). read_many r n.0 n.1) o) (u32_is_read (length xs) fits.0 (flat_map a xs ++ rest))
          ∙ many_are_read codec xs rest fits.1

      nothing_else : (bytes : Bytes) (xs : List X) (rest : Bytes) → read_list r bytes ≡ Some (xs, rest) → (bytes ≡ list_text a xs ++ rest) × ((length xs < 2 ^ 32) × EachFits f xs)
      nothing_else bytes xs rest e =
          let n = and_then_is (λ (n : ℕ × Bytes). read_many r n.0 n.1) (read_u32 bytes) (xs, rest) e in
          let number = only_u32_is_read bytes n.0.0 n.0.1 n.1 in
          let many = only_many_are_read codec n.0.0 n.0.1 xs rest n.2 in
          (number.0 ∙ (λ i. u32 (sym many.count i) ++ many.spelled i) ∙ sym (append_assoc (u32 (length xs)) (flat_map a xs) rest), (omega (arith, number.1, many.count), many.fit))

-- ---- a whole

empty_is : (bytes : Bytes) → is_empty bytes ≡ true → bytes ≡ []
empty_is [] e = refl
empty_is (b ∷ bytes) e = absurd (cc)

append_none : (bytes : Bytes) → bytes ++ [] ≡ bytes
append_none [] = refl
append_none (b ∷ bytes) = ap (λ (l : Bytes). b ∷ l) (append_none bytes)

module _ {X : Type 0} (a : X → Bytes) (r : Reader X) (f : X → Type 0) where
  pub whole_is_read : IsCodec a r f → (x : X) → f x → read_whole r (a x) ≡ Some x
  whole_is_read codec x fits =
      ap (λ (o : Option (X × Bytes)). option_and_then (λ (y : X × Bytes). cond (is_empty y.1) (Some y.0) None) o) (ap r (sym (append_none (a x))) ∙ codec.is_read x [] fits)

  pub only_whole_is_read : IsCodec a r f → (bytes : Bytes) (x : X) → read_whole r bytes ≡ Some x → (bytes ≡ a x) × f x
  only_whole_is_read codec bytes x e =
      let y = and_then_is (λ (y : X × Bytes). cond (is_empty y.1) (Some y.0) None) (r bytes) x e in
      let end = if_is (is_empty y.0.1) (Some y.0.0) x y.2 in
      let read = codec.only bytes y.0.0 y.0.1 y.1 in
      let P : X → Type 0 = λ z. (bytes ≡ a z) × f z in
      subst P (same_some y.0.0 x end.1) (read.0 ∙ ap (λ (l : Bytes). a y.0.0 ++ l) (empty_is y.0.1 end.0) ∙ append_none (a y.0.0), read.1)
