-- Shares in their places.
use Rattle.std.proofs.Common.{◌≡◌, ◌≢◌, ℕ, zero, suc, ◌+◌, ◌≤◌, ◌<◌, Bool, true, false, List, [], ◌∷◌, ◌++◌, length, set, get_or, take, subst, refl, sym, ap, ◌∙◌, arith, rules, Some, None}
use Rattle.std.specs.Prelude.{Option, IfSome, IfNone}
use Rattle.std.specs.Option.{is_some}
use Rattle.std.proofs.lemmas.List.{take_more}
use Rattle.atomic_table.specs.Seated.{TableId}
use Rattle.key_locks.specs.Shares.{ShareOf, own_from, AreOwn, Spot, LentOut, InHand, Elsewhere, is_held, spot_of, spot_at, spot_if, outside_of}

pub length-own_from : (table : TableId) (k : ℕ) (ns : List ℕ) → length (own_from table k ns) ≡ length ns
length-own_from table k [] = refl
length-own_from table k (n ∷ ns) = ap suc (length-own_from table (suc k) ns)

pub own-own_from : (table : TableId) (k : ℕ) (ns : List ℕ) → AreOwn table k (own_from table k ns)
own-own_from table k [] = tt
own-own_from table k (n ∷ ns) = (refl, refl, own-own_from table (suc k) ns)

pub own_at : (table : TableId) (k s i : ℕ) (ns : List ℕ) (d : Option ShareOf) → k + i ≡ s → i < length ns → get_or (own_from table k ns) i d ≡ Some (record { table = table; stripe = s; count = get_or ns i 0 })
own_at table k s i [] d e lt = absurd (omega arith)
own_at table k s zero (n ∷ ns) d e lt = let same : k ≡ s = omega arith in ap (λ (j : ℕ). Some (record { table = table; stripe = j; count = n })) same
own_at table k s (suc i) (n ∷ ns) d e lt = own_at table (suc k) s i ns d (omega arith) (omega arith)

pub spot_here : (xs : List (Option ShareOf)) (i : ℕ) (x : Option ShareOf) → i < length xs → spot_at (set xs i x) i ≡ spot_of x
spot_here [] i x lt = absurd (omega arith)
spot_here (y ∷ ys) zero x lt = refl
spot_here (y ∷ ys) (suc i) x lt = spot_here ys i x (omega arith)

pub spot_else : (xs : List (Option ShareOf)) (i k : ℕ) (x : Option ShareOf) → k ≢ i → spot_at (set xs i x) k ≡ spot_at xs k
spot_else [] i k x ne = refl
spot_else (y ∷ ys) zero zero x ne = absurd (ne refl)
spot_else (y ∷ ys) zero (suc k) x ne = refl
spot_else (y ∷ ys) (suc i) zero x ne = refl
spot_else (y ∷ ys) (suc i) (suc k) x ne = spot_else ys i k x (λ e. ne (ap suc e))

pub spot_get : (xs : List (Option ShareOf)) (i : ℕ) (d : Option ShareOf) → i < length xs → spot_at xs i ≡ spot_of (get_or xs i d)
spot_get [] i d lt = absurd (omega arith)
spot_get (y ∷ ys) zero d lt = refl
spot_get (y ∷ ys) (suc i) d lt = spot_get ys i d (omega arith)

pub spot_past : (xs : List (Option ShareOf)) (i : ℕ) → length xs ≤ i → spot_at xs i ≡ Elsewhere
spot_past [] i le = refl
spot_past (y ∷ ys) zero le = absurd (omega arith)
spot_past (y ∷ ys) (suc i) le = spot_past ys i (omega arith)

-- what is lent out has its place
pub lent_there : (xs : List (Option ShareOf)) (i : ℕ) → spot_at xs i ≡ LentOut → i < length xs
lent_there [] i e = absurd (cc (e))
lent_there (y ∷ ys) zero e = omega arith
lent_there (y ∷ ys) (suc i) e = let r = lent_there ys i e in omega arith

-- a share in its place is the tally's, and of its stripe
pub own_share : (table : TableId) (k s i : ℕ) (xs : List (Option ShareOf)) (d : Option ShareOf) (x : ShareOf) → k + i ≡ s → i < length xs → AreOwn table k xs → get_or xs i d ≡ Some x → (x.table ≡ table) × (x.stripe ≡ s)
own_share table k s i [] d x e lt own is = absurd (omega arith)
own_share table k s zero (None ∷ xs) d x e lt own is = absurd (cc (is))
own_share table k s zero (Some y ∷ xs) d x e lt own is =
    let same : y ≡ x = cc (is) in
    let at : k ≡ s = omega arith in
    (sym (ap (λ (z : ShareOf). z.table) same) ∙ own.0, sym (ap (λ (z : ShareOf). z.stripe) same) ∙ (own.1 ∙ at))
own_share table k s (suc i) (None ∷ xs) d x e lt own is = own_share table (suc k) s i xs d x (omega arith) (omega arith) own is
own_share table k s (suc i) (Some y ∷ xs) d x e lt own is = own_share table (suc k) s i xs d x (omega arith) (omega arith) own.2 is

pub own-lent : (table : TableId) (k i : ℕ) (xs : List (Option ShareOf)) → AreOwn table k xs → AreOwn table k (set xs i None)
own-lent table k i [] own = tt
own-lent table k zero (None ∷ xs) own = own
own-lent table k zero (Some y ∷ xs) own = own.2
own-lent table k (suc i) (None ∷ xs) own = own-lent table (suc k) i xs own
own-lent table k (suc i) (Some y ∷ xs) own = (own.0, own.1, own-lent table (suc k) i xs own.2)

pub own-given : (table : TableId) (k s i : ℕ) (xs : List (Option ShareOf)) (x : ShareOf) → k + i ≡ s → x.table ≡ table → x.stripe ≡ s → AreOwn table k xs → AreOwn table k (set xs i (Some x))
own-given table k s i [] x e t p own = tt
own-given table k s zero (None ∷ xs) x e t p own = (t, omega arith, own)
own-given table k s zero (Some y ∷ xs) x e t p own = (t, omega arith, own.2)
own-given table k s (suc i) (None ∷ xs) x e t p own = own-given table (suc k) s i xs x (omega arith) t p own
own-given table k s (suc i) (Some y ∷ xs) x e t p own = (own.0, own.1, own-given table (suc k) s i xs x (omega arith) t p own.2)

pub outside-set : (has : ℕ → Bool) (k s i : ℕ) (xs : List (Option ShareOf)) (x : Option ShareOf) → k + i ≡ s → has s ≡ true → outside_of has k (set xs i x) ≡ outside_of has k xs
outside-set has k s i [] x e is = refl
outside-set has k s zero (y ∷ ys) x e is =
    let at : has k ≡ true = ap has (omega arith) ∙ is in rw at refl
outside-set has k s (suc i) (y ∷ ys) x e is = rw (outside-set has (suc k) s i ys x (omega arith) is) refl

-- what is not held stays as it is where nothing is put there
unheld_same : (xs : List (Option ShareOf)) (s : ℕ) → is_held (spot_at xs s) ≡ false → spot_at (set xs s None) s ≡ spot_at xs s
unheld_same [] s h = refl
unheld_same (None ∷ xs) zero h = refl
unheld_same (Some y ∷ xs) zero h = absurd (cc (h))
unheld_same (x ∷ xs) (suc s) h = unheld_same xs s h

pub held_there : (xs : List (Option ShareOf)) (s : ℕ) → is_held (spot_at xs s) ≡ true → s < length xs
held_there [] s h = absurd (cc (h))
held_there (x ∷ xs) zero h = omega arith
held_there (x ∷ xs) (suc s) h = let r = held_there xs s h in omega arith

-- by the place i of the stripe s in the items xs, which a contract sees as ys
pub past_none : (s i : ℕ) (xs ys : List (Option ShareOf)) → xs ≡ ys → i ≡ s → length xs ≤ i → is_held (spot_at ys s) ≡ false
past_none s i xs ys e is le = ap (λ (l : List (Option ShareOf)). is_held (spot_at l s)) (sym e) ∙ (ap (λ (k : ℕ). is_held (spot_at xs k)) (sym is) ∙ ap is_held (spot_past xs i le))

pub spot_seen : (s i : ℕ) (xs ys : List (Option ShareOf)) (x r : Option ShareOf) → xs ≡ ys → i ≡ s → i < length xs → x ≡ r → r ≡ get_or xs i r → spot_at ys s ≡ spot_of x
spot_seen s i xs ys x r e is lt same at =
    ap (λ (l : List (Option ShareOf)). spot_at l s) (sym e) ∙ (ap (spot_at xs) (sym is) ∙ (spot_get xs i r lt ∙ ap spot_of (sym at ∙ sym same)))

pub lent_share : (t u : TableId) (s i : ℕ) (xs ys : List (Option ShareOf)) (x r : Option ShareOf) → t ≡ u → xs ≡ ys → i ≡ s → i < length xs → x ≡ r → r ≡ get_or xs i r → AreOwn t 0 xs
    → IfSome x (λ y. (y.table ≡ u) × (y.stripe ≡ s) × (s < length ys) × (spot_at ys s ≡ InHand y.count))
lent_share t u s i xs ys None r same e is lt to at own = search rules
lent_share t u s i xs ys (Some y) r same e is lt to at own =
    let o = own_share t 0 i i xs r y (omega arith) lt own (sym at ∙ sym to) in
    let there : s < length ys = omega (arith, ap length e) in
    (o.0 ∙ same, o.1 ∙ is, there, spot_seen s i xs ys (Some y) r e is lt to at)

pub lent_none : (s i : ℕ) (xs ys : List (Option ShareOf)) (x r : Option ShareOf) → xs ≡ ys → i ≡ s → i < length xs → x ≡ r → r ≡ get_or xs i r → IfNone x (is_held (spot_at ys s) ≡ false)
lent_none s i xs ys None r e is lt to at = ap is_held (spot_seen s i xs ys None r e is lt to at)
lent_none s i xs ys (Some y) r e is lt to at = search rules

pub lend_share : (t : TableId) (b : Bool) (s : ℕ) (xs zs : List (Option ShareOf)) (x : Option ShareOf) → b ≡ true → zs ≡ set xs s None → IfSome x (λ y. (y.table ≡ t) × (y.stripe ≡ s) × (s < length xs) × (spot_at xs s ≡ InHand y.count))
    → IfSome x (λ y. (y.table ≡ t) × (y.stripe ≡ s) × (spot_if b (spot_at xs s) ≡ InHand y.count) × (spot_if b (spot_at zs s) ≡ LentOut))
lend_share t true s xs zs None has e h = search rules
lend_share t true s xs zs (Some y) has e h = (h.0, h.1, h.3, ap (λ (l : List (Option ShareOf)). spot_at l s) e ∙ spot_here xs s None h.2)
lend_share t false s xs zs x has e h = absurd (cc (has))

pub lend_none : (b : Bool) (s : ℕ) (xs zs : List (Option ShareOf)) (x : Option ShareOf) → b ≡ true → zs ≡ set xs s None → IfNone x (is_held (spot_at xs s) ≡ false)
    → IfNone x ((is_held (spot_if b (spot_at xs s)) ≡ false) × (spot_if b (spot_at zs s) ≡ spot_if b (spot_at xs s)))
lend_none true s xs zs None has e h = (h, ap (λ (l : List (Option ShareOf)). spot_at l s) e ∙ unheld_same xs s h)
lend_none true s xs zs (Some y) has e h = search rules
lend_none false s xs zs x has e h = absurd (cc (has))

pub set_others : (b : Bool) (s k : ℕ) (xs zs : List (Option ShareOf)) (x : Option ShareOf) → zs ≡ set xs s x → k ≢ s → spot_if b (spot_at zs k) ≡ spot_if b (spot_at xs k)
set_others b s k xs zs x e ne = ap (spot_if b) (ap (λ (l : List (Option ShareOf)). spot_at l k) e ∙ spot_else xs s k x ne)

pub if_lent : (b : Bool) (p : Spot) → spot_if b p ≡ LentOut → (b ≡ true) × (p ≡ LentOut)
if_lent true p e = (refl, e)
if_lent false p e = absurd (cc (e))

pub give_held : (b : Bool) (s : ℕ) (xs zs : List (Option ShareOf)) (y : ShareOf) → zs ≡ set xs s (Some y) → spot_if b (spot_at xs s) ≡ LentOut → spot_if b (spot_at zs s) ≡ InHand y.count
give_held true s xs zs y e lent = ap (λ (l : List (Option ShareOf)). spot_at l s) e ∙ spot_here xs s (Some y) (lent_there xs s lent)
give_held false s xs zs y e lent = absurd (cc (lent))

pub same_outside : (has : ℕ → Bool) (s : ℕ) (xs zs : List (Option ShareOf)) (x : Option ShareOf) → zs ≡ set xs s x → has s ≡ true → outside_of has 0 zs ≡ outside_of has 0 xs
same_outside has s xs zs x e is = ap (outside_of has 0) e ∙ outside-set has 0 s s xs x (omega arith) is

pub some_held : (x : Option ShareOf) → is_some x ≡ is_held (spot_of x)
some_held None = refl
some_held (Some y) = refl

-- the sixteen shares of a tally
pub own_row : (z w : TableId) (ns : List ℕ) (xs : List (Option ShareOf)) → xs ≡ own_from z 0 ns → w ≡ z → length ns ≡ 16 → (length xs ≡ 16) × AreOwn w 0 xs
own_row z w ns xs e same len =
    (ap length e ∙ (length-own_from z 0 ns ∙ len), subst (λ (y : TableId). AreOwn y 0 xs) (sym same) (subst (AreOwn z 0) (sym e) (own-own_from z 0 ns)))

pub pushed : (z : TableId) (k i : ℕ) (ns : List ℕ) (xs zs : List (Option ShareOf)) (x : ShareOf) → zs ≡ xs ++ Some x ∷ [] → xs ≡ take k (own_from z 0 ns) → x ≡ record { table = z; stripe = k; count = get_or ns i 0 } → i ≡ k → k < length ns → zs ≡ take (k + 1) (own_from z 0 ns)
pushed z k i ns xs zs x e front is at lt =
    let own : List (Option ShareOf) = own_from z 0 ns in
    let last : Some x ≡ get_or own k None = ap (λ (y : ShareOf). Some y) (is ∙ ap (λ (j : ℕ). record { table = z; stripe = k; count = get_or ns j 0 }) at) ∙ sym (own_at z 0 k k ns None (omega arith) lt) in
    let there : k < length own = omega (arith, length-own_from z 0 ns) in
    e ∙ (ap (λ (l : List (Option ShareOf)). l ++ Some x ∷ []) front ∙ (ap (λ (y : Option ShareOf). take k own ++ y ∷ []) last ∙ sym (take_more own k None there)))
