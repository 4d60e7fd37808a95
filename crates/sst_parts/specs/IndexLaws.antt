-- How the spots of an index are read.
use Rattle.std.proofs.Common.{◌≡◌, ℕ, zero, suc, ◌+◌, ◌<◌, ◌≤◌, ◌^◌, List, [], ◌∷◌, ◌++◌, refl, sym, ap, subst, ◌∙◌, Bool, true, false, cond, length, Option, Some, None, option_map, option_and_then, append_assoc, append-nil, length-append, arith}
use Rattle.std.specs.Prelude.{◌==◌, ◌&&◌}
use Rattle.std.proofs.lemmas.Bool.Decides.{nat_tests}
use Rattle.kv_base.specs.Map.{Bytes}
use Rattle.kv_base.specs.MetaValues.{is_empty}
use Rattle.kv_base.specs.Fields.{u32, u64, text, read_u32, read_u64, read_text}
use Rattle.kv_base.specs.FieldLaws.{u32_is_read, u64_is_read, text_is_read, only_u32_is_read, only_u64_is_read, only_text_is_read, length-u32, length-u64, length-text}
use Rattle.kv_base.specs.InversionLaws.{and_then_is, map_is, number_is}
use Rattle.sst_parts.specs.declared.index.Spot.{Spot}
use Rattle.sst_parts.specs.Index.{spot_text, spot_behind, read_spot, then_spots, read_spots}

-- ---- nothing else is read

pub record IsSpotIn (bytes : Bytes) (front : Spot × Bytes) : Type 0 where
  pub spelled : bytes ≡ spot_text front.0 ++ front.1
  pub place : front.0.place < 2 ^ 64
  pub bytes_fit : front.0.bytes < 2 ^ 32
  pub last : length front.0.last < 2 ^ 32

pub only_spot_is_read : (bytes : Bytes) (front : Spot × Bytes) → read_spot bytes ≡ Some front → IsSpotIn bytes front
unfolding read_spot
only_spot_is_read bytes front h =
    let place = and_then_is (λ (p : ℕ × Bytes). option_and_then (spot_behind p.0) (read_u32 p.1)) (read_u64 bytes) front h in
    let count = and_then_is (spot_behind place.0.0) (read_u32 place.0.1) front place.2 in
    let last = map_is (λ (l : Bytes × Bytes). (record { place = place.0.0; bytes = count.0.0; last = l.0 }, l.1)) (read_text count.0.1) front count.2 in
    let p = only_u64_is_read bytes place.0.0 place.0.1 place.1 in
    let c = only_u32_is_read place.0.1 count.0.0 count.0.1 count.1 in
    let l = only_text_is_read count.0.1 last.0.0 last.0.1 last.1 in
    let whole : bytes ≡ (u64 place.0.0 ++ (u32 count.0.0 ++ text last.0.0)) ++ last.0.1 =
    p.0 ∙ ap (λ b. u64 place.0.0 ++ b) (c.0 ∙ ap (λ b. u32 count.0.0 ++ b) l.0)
    ∙ ap (λ b. u64 place.0.0 ++ b) (sym (append_assoc (u32 count.0.0) (text last.0.0) last.0.1))
    ∙ sym (append_assoc (u64 place.0.0) (u32 count.0.0 ++ text last.0.0) last.0.1) in
    subst (λ (f : Spot × Bytes). IsSpotIn bytes f) last.2 (record { spelled = whole; place = p.1; bytes_fit = c.1; last = l.1 })

-- ---- it is read back

length-spot : (spot : Spot) → length (spot_text spot) ≡ 16 + length spot.last
length-spot spot =
    let a = length-append (u64 spot.place) (u32 spot.bytes ++ text spot.last) in
    let b = length-append (u32 spot.bytes) (text spot.last) in
    let p = length-u64 spot.place in
    let c = length-u32 spot.bytes in
    let l = length-text spot.last in
    omega (arith, a, b, p, c, l)

pub record IsSpot (spot : Spot) : Type 0 where
  pub place : spot.place < 2 ^ 64
  pub bytes_fit : spot.bytes < 2 ^ 32
  pub last : length spot.last < 2 ^ 32

pub spot_is_read : (spot : Spot) (bytes : Bytes) → IsSpot spot → read_spot (spot_text spot ++ bytes) ≡ Some (spot, bytes)
unfolding read_spot
spot_is_read spot bytes is =
    ap (λ b. option_and_then (λ (p : ℕ × Bytes). option_and_then (spot_behind p.0) (read_u32 p.1)) (read_u64 b))
    (append_assoc (u64 spot.place) (u32 spot.bytes ++ text spot.last) bytes ∙ ap (λ b. u64 spot.place ++ b) (append_assoc (u32 spot.bytes) (text spot.last) bytes))
    ∙ ap (λ o. option_and_then (λ (p : ℕ × Bytes). option_and_then (spot_behind p.0) (read_u32 p.1)) o) (u64_is_read spot.place is.place (u32 spot.bytes ++ (text spot.last ++ bytes)))
    ∙ ap (λ o. option_and_then (spot_behind spot.place) o) (u32_is_read spot.bytes is.bytes_fit (text spot.last ++ bytes))
    ∙ ap (λ o. option_map (λ (l : Bytes × Bytes). (record { place = spot.place; bytes = spot.bytes; last = l.0 }, l.1)) o) (text_is_read spot.last is.last bytes)

-- ---- spot by spot

abbrev pub spots_onto : List Spot → Option (List Spot) → Option (List Spot)
spots_onto done spots = option_map (λ more. done ++ more) spots

onto_spot : (done : List Spot) (spot : Spot) (o : Option (List Spot)) → spots_onto done (then_spots spot o) ≡ spots_onto (done ++ spot ∷ []) o
onto_spot done spot None = refl
onto_spot done spot (Some spots) = ap (λ l. Some l) (sym (append_assoc done (spot ∷ []) spots))

pub spots_begin : (left n place end : ℕ) (bytes : Bytes) (done : List Spot) → left ≡ n → done ≡ [] → spots_onto done (read_spots left place end bytes) ≡ read_spots n place end bytes
spots_begin left n place end bytes done all is = (λ i. spots_onto (is i) (read_spots (all i) place end bytes)) ∙ as_it_is (read_spots n place end bytes)
  where
    as_it_is : (o : Option (List Spot)) → spots_onto [] o ≡ o
    as_it_is None = refl
    as_it_is (Some spots) = refl

abbrev pub at_place : ℕ → ℕ → ℕ → Spot × Bytes → Option (List Spot)
at_place n place end front = cond (front.0.place == place) (then_spots front.0 (read_spots n (place + front.0.bytes) end front.1)) None

pub spots_more : (n place end : ℕ) (bytes : Bytes) → read_spots (suc n) place end bytes ≡ option_and_then (at_place n place end) (read_spot bytes)
unfolding read_spots
spots_more n place end bytes = refl

pub one_spot_more : (left n place end next : ℕ) (bytes : Bytes) (done : List Spot) (front : Spot × Bytes) → left ≡ suc n → read_spot bytes ≡ Some front → front.0.place ≡ place → next ≡ place + front.0.bytes
    → spots_onto done (read_spots left place end bytes) ≡ spots_onto (done ++ front.0 ∷ []) (read_spots n next end front.1)
one_spot_more left n place end next bytes done front counted is here moved =
    let test : (front.0.place == place) ≡ true = grind (arith, nat_tests) in
    ap (λ (k : ℕ). spots_onto done (read_spots k place end bytes)) counted
    ∙ ap (spots_onto done) (spots_more n place end bytes ∙ ap (λ o. option_and_then (at_place n place end) o) is ∙ ap (λ b. cond b (then_spots front.0 (read_spots n (place + front.0.bytes) end front.1)) None) test)
    ∙ onto_spot done front.0 (read_spots n (place + front.0.bytes) end front.1)
    ∙ ap (λ (k : ℕ). spots_onto (done ++ front.0 ∷ []) (read_spots n k end front.1)) (sym moved)

pub no_spot_more : (left n place end : ℕ) (bytes : Bytes) (done : List Spot) → left ≡ suc n → read_spot bytes ≡ None → spots_onto done (read_spots left place end bytes) ≡ None
no_spot_more left n place end bytes done counted is =
    ap (λ (k : ℕ). spots_onto done (read_spots k place end bytes)) counted
    ∙ ap (spots_onto done) (spots_more n place end bytes ∙ ap (λ o. option_and_then (at_place n place end) o) is)

pub spot_elsewhere : (left n place end : ℕ) (bytes : Bytes) (done : List Spot) (front : Spot × Bytes) → left ≡ suc n → read_spot bytes ≡ Some front → (front.0.place == place) ≡ false → spots_onto done (read_spots left place end bytes) ≡ None
spot_elsewhere left n place end bytes done front counted is there =
    ap (λ (k : ℕ). spots_onto done (read_spots k place end bytes)) counted
    ∙ ap (spots_onto done) (spots_more n place end bytes ∙ ap (λ o. option_and_then (at_place n place end) o) is ∙ ap (λ b. cond b (then_spots front.0 (read_spots n (place + front.0.bytes) end front.1)) None) there)

-- no block stands, and none ends, beyond what 64 bits hold
spots_beyond : (n place end : ℕ) (bytes : Bytes) → 2 ^ 64 ≤ place → end < 2 ^ 64 → read_spots n place end bytes ≡ None
unfolding read_spots
spots_beyond zero place end bytes high low =
    let test : (place == end) ≡ false = grind (arith, nat_tests) in
    ap (λ b. cond (b && is_empty bytes) (Some []) None) test
spots_beyond (suc n) place end bytes high low = by_spot (read_spot bytes) refl
  where
    by_spot : (o : Option (Spot × Bytes)) → read_spot bytes ≡ o → option_and_then (at_place n place end) o ≡ None
    by_spot None h = refl
    by_spot (Some front) h =
        let small = (only_spot_is_read bytes front h).place in
        let test : (front.0.place == place) ≡ false = grind (arith, nat_tests) in
        ap (λ b. cond b (then_spots front.0 (read_spots n (place + front.0.bytes) end front.1)) None) test

pub spot_beyond : (left n place end : ℕ) (bytes : Bytes) (done : List Spot) (front : Spot × Bytes) → left ≡ suc n → read_spot bytes ≡ Some front → front.0.place ≡ place → 2 ^ 64 ≤ place + front.0.bytes → end < 2 ^ 64
    → spots_onto done (read_spots left place end bytes) ≡ None
spot_beyond left n place end bytes done front counted is here high low =
    one_spot_more left n place end (place + front.0.bytes) bytes done front counted is here refl
    ∙ ap (spots_onto (done ++ front.0 ∷ [])) (spots_beyond n (place + front.0.bytes) end front.1 high low)

pub spots_end : (left place end : ℕ) (bytes : Bytes) (done : List Spot) → left ≡ 0 → (place == end) ≡ true → (length bytes == 0) ≡ true → spots_onto done (read_spots left place end bytes) ≡ Some done
unfolding read_spots
spots_end left place end [] done none here nothing =
    ap (λ (k : ℕ). spots_onto done (read_spots k place end [])) none ∙ ap (λ b. spots_onto done (cond (b && true) (Some []) None)) here ∙ ap (λ l. Some l) (append-nil done)
spots_end left place end (b ∷ bytes) done none here nothing = let never : length (b ∷ bytes) ≡ 0 = number_is (length (b ∷ bytes)) 0 nothing in absurd (omega (arith, never))

pub spots_end_elsewhere : (left place end : ℕ) (bytes : Bytes) (done : List Spot) → left ≡ 0 → (place == end) ≡ false → spots_onto done (read_spots left place end bytes) ≡ None
unfolding read_spots
spots_end_elsewhere left place end bytes done none there =
    ap (λ (k : ℕ). spots_onto done (read_spots k place end bytes)) none ∙ ap (λ b. spots_onto done (cond (b && is_empty bytes) (Some []) None)) there

pub more_behind_spots : (left place end : ℕ) (bytes : Bytes) (done : List Spot) → left ≡ 0 → (length bytes == 0) ≡ false → spots_onto done (read_spots left place end bytes) ≡ None
unfolding read_spots
more_behind_spots left place end [] done none some = absurd (cc)
more_behind_spots left place end (b ∷ bytes) done none some =
    ap (λ (k : ℕ). spots_onto done (read_spots k place end (b ∷ bytes))) none ∙ never (place == end)
  where
    never : (t : Bool) → spots_onto done (cond (t && false) (Some []) None) ≡ None
    never true = refl
    never false = refl
