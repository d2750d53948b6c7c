-- Reading and writing are inverse: what is written reads back, and a text that is read is the one that is written for what it says. Assumes nothing.
use mathlib.Core.Path.{◌≡◌, refl, sym, ap, ap₂, ◌∙◌}
use mathlib.Core.Bool.{Bool, true, false, not, cond, ◌&&◌, ◌||◌, and-false, or-true}
use mathlib.Core.List.{List, [], ◌∷◌, ◌++◌, map, append_assoc, append-nil}
use mathlib.Core.Logic.{◌⊎◌, inl, inr}
use Prim.Native.Nat.{ℕ, zero, suc, ◌+◌, ◌-◌, ◌*◌, ◌/◌, ◌%◌, ◌^◌, ◌≤◌, ◌<◌}
use native.Mathlib.Nat.{pow-suc, not-suc-le-zero}
use native.Mathlib.Omega.{arith}
use borrow.Author.Tests.{lt-ltb, le-leb, ltb-true, leb-true, eq-eqb, ne_eqb, eqb-true, not-true}
use lib.Dec.{leb, ltb, eqb}
use lib.ListN.{length, get_or, take, drop, length-append, get_or-append, take-append-drop}
use lib.Seq.{take-append_seam, drop-append_seam}
use Rattle.base.specs.Lists.{every, is_in, same_list}
use Rattle.base.proofs.Bools.{and_left, and_right, both_ways, lt-or-le}
use Rattle.base.proofs.Lists.{same-list, list_same}
use Rattle.text_writing.specs.Text.{comma, newline, digit, digits_of, decimal, further, numbers, line}
use Rattle.text_writing.proofs.Digits.{digits-one, digits_more, digits-some, decimal-one, decimal-more, decimal-some}
use Rattle.text_reading.specs.Reading.{is_digit, value_from, leading_zero, is_number, number_of, before, behind, on_first, parts, fields, is_list, list_of, is_line, value_of}
use Rattle.text_reading.proofs.Numbers.{value_grows, value-append}
use Rattle.text_reading.proofs.Fields.{fields-some}

-- ---- digits

every_append : (f : ℕ → Bool) (a b : List ℕ) → every f a ≡ true → every f b ≡ true → every f (a ++ b) ≡ true
every_append f [] b h u = u
every_append f (x ∷ a) b h u = ap₂ ◌&&◌ (and_left (f x) (every f a) h) (every_append f a b (and_right (f x) (every f a) h) u)

digit-is : (d : ℕ) → d < 10 → is_digit (digit d) ≡ true
digit-is d h = ap₂ ◌&&◌ (le-leb 48 (digit d) (omega arith)) (le-leb (digit d) 57 (omega arith))

digits-all : (k n : ℕ) → every is_digit (digits_of k n) ≡ true
unfolding digits_of
digits-all zero n = refl
digits-all (suc k) n = go (lt-or-le n 10) (digits-all k (n / 10))
  where
    one : (d : ℕ) → d < 10 → every is_digit (digit d ∷ []) ≡ true
    one d h = ap (λ (t : Bool). t && true) (digit-is d h)

    go : (n < 10) ⊎ (10 ≤ n) → every is_digit (digits_of k (n / 10)) ≡ true → every is_digit (digits_of (suc k) n) ≡ true
    go (inl a) ih = ap (every is_digit) (digits-one k n a) ∙ one n a
    go (inr a) ih = ap (every is_digit) (digits_more k n a) ∙ every_append is_digit (digits_of k (n / 10)) (digit (n % 10) ∷ []) ih (one (n % 10) (omega arith))

-- the value of the digits is the number
digits_value : (k n : ℕ) → n < 10 ^ k → value_from 0 (digits_of k n) ≡ n
unfolding value_from digits_of
digits_value zero n h = let z : n ≡ 0 = omega arith in sym z
digits_value (suc k) n h = go (lt-or-le n 10) (digits_value k (n / 10))
  where
    p : 10 ^ suc k ≡ 10 ^ k * 10
    p = pow-suc 10 k

    go : (n < 10) ⊎ (10 ≤ n) → (n / 10 < 10 ^ k → value_from 0 (digits_of k (n / 10)) ≡ n / 10) → value_from 0 (digits_of (suc k) n) ≡ n
    go (inl a) ih = ap (value_from 0) (digits-one k n a) ∙ omega arith
    go (inr a) ih =
        let e : value_from 0 (digits_of k (n / 10)) ≡ n / 10 = ih (omega (arith, p)) in
        ap (value_from 0) (digits_more k n a) ∙ value-append 0 (digits_of k (n / 10)) (digit (n % 10) ∷ [])
        ∙ ap (λ (v : ℕ). 10 * v + (digit (n % 10) - 48)) e ∙ omega arith

-- the first digit of a number that is not 0
first-digit : (k n : ℕ) → 0 < n → n < 10 ^ k → (0 < length (digits_of k n)) × (get_or (digits_of k n) 0 0 ≡ 48 → ⊥)
first-digit zero n z h = absurd (omega arith)
first-digit (suc k) n z h = (digits-some k n, go (lt-or-le n 10) (first-digit k (n / 10)))
  where
    p : 10 ^ suc k ≡ 10 ^ k * 10
    p = pow-suc 10 k

    go : (n < 10) ⊎ (10 ≤ n) → (0 < n / 10 → n / 10 < 10 ^ k → (0 < length (digits_of k (n / 10))) × (get_or (digits_of k (n / 10)) 0 0 ≡ 48 → ⊥)) → get_or (digits_of (suc k) n) 0 0 ≡ 48 → ⊥
    go (inl a) ih e = let q : digit n ≡ 48 = sym (ap (λ (x : List ℕ). get_or x 0 0) (digits-one k n a)) ∙ e in omega arith
    go (inr a) ih e =
        let r = ih (omega arith) (omega (arith, p)) in
        r.1 (sym (ap (λ (x : List ℕ). get_or x 0 0) (digits_more k n a) ∙ get_or-append (digits_of k (n / 10)) (digit (n % 10) ∷ []) 0 0 r.0) ∙ e)

first_plain : (ds : List ℕ) → (get_or ds 0 0 ≡ 48 → ⊥) → leading_zero ds ≡ false
unfolding leading_zero
first_plain [] h = refl
first_plain (d ∷ ds) h = ap (λ (t : Bool). t && ltb 0 (length ds)) (ne_eqb d 48 h)

decimal-plain : (n : ℕ) → n < 10 ^ 20 → leading_zero (decimal n) ≡ false
unfolding leading_zero
decimal-plain n h = go (lt-or-le n 10)
  where
    go : (n < 10) ⊎ (10 ≤ n) → leading_zero (decimal n) ≡ false
    go (inl a) = ap leading_zero (decimal-one n a) ∙ and-false (eqb (digit n) 48)
    go (inr a) = first_plain (decimal n) (first-digit 20 n (omega arith) h).1

-- ---- a number

four : (a b c d : Bool) → a ≡ true → b ≡ true → c ≡ true → d ≡ true → (a && b && c && d) ≡ true
four a b c d p q r s = rw (p, q, r, s) refl

-- what makes bytes a number
record NumberText (most : ℕ) (ds : List ℕ) : Type 0 where
  some : 0 < length ds
  plain : leading_zero ds ≡ false
  digits : every is_digit ds ≡ true
  small : value_from 0 ds ≤ most
  value : number_of most ds ≡ value_from 0 ds

a-number : (most : ℕ) (ds : List ℕ) → is_number most ds ≡ true → NumberText most ds
unfolding is_number number_of
a-number most ds e =
    let three = and_left (ltb 0 (length ds) && not (leading_zero ds) && every is_digit ds) (leb (value_from 0 ds) most) e in
    let two = and_left (ltb 0 (length ds) && not (leading_zero ds)) (every is_digit ds) three in
    record {
      some = ltb-true 0 (length ds) (and_left (ltb 0 (length ds)) (not (leading_zero ds)) two);
      plain = not-true (leading_zero ds) (and_right (ltb 0 (length ds)) (not (leading_zero ds)) two);
      digits = and_right (ltb 0 (length ds) && not (leading_zero ds)) (every is_digit ds) three;
      small = leb-true (value_from 0 ds) most (and_right (ltb 0 (length ds) && not (leading_zero ds) && every is_digit ds) (leb (value_from 0 ds) most) e);
      value = ap (λ (t : Bool). cond t (value_from 0 ds) 0) e;
    }

-- what is written reads back
pub number-reads : (most n : ℕ) → n ≤ most → n < 10 ^ 20 → (is_number most (decimal n) ≡ true) × (number_of most (decimal n) ≡ n)
unfolding is_number
number-reads most n h u = (is, (a-number most (decimal n) is).value ∙ same)
  where
    same : value_from 0 (decimal n) ≡ n
    same = digits_value 20 n u

    is : is_number most (decimal n) ≡ true
    is =
        four (ltb 0 (length (decimal n))) (not (leading_zero (decimal n))) (every is_digit (decimal n)) (leb (value_from 0 (decimal n)) most)
        (lt-ltb 0 (length (decimal n)) (decimal-some n)) (ap not (decimal-plain n u)) (digits-all 20 n) (le-leb (value_from 0 (decimal n)) most (omega (arith, same)))

-- digits behind a number that is not 0 are the digits of their value
value-writes : (v : ℕ) (ds : List ℕ) → 0 < v → every is_digit ds ≡ true → value_from v ds < 10 ^ 20 → decimal (value_from v ds) ≡ decimal v ++ ds
unfolding value_from
value-writes v [] z h u = sym (append-nil (decimal v))
value-writes v (d ∷ ds) z h u =
    let is = and_left (is_digit d) (every is_digit ds) h in
    let low : 48 ≤ d = leb-true 48 d (and_left (leb 48 d) (leb d 57) is) in
    let high : d ≤ 57 = leb-true d 57 (and_right (leb 48 d) (leb d 57) is) in
    let w = 10 * v + (d - 48) in
    let tens : w / 10 ≡ v = omega arith in
    let ones : digit (w % 10) ≡ d = omega arith in
    let fits : w < 10 ^ 20 = omega (arith, value_grows w ds) in
    value-writes w ds (omega arith) (and_right (is_digit d) (every is_digit ds) h) u
    ∙ ap (λ (x : List ℕ). x ++ ds) (decimal-more w (omega arith) fits ∙ ap₂ (λ (a b : ℕ). decimal a ++ (b ∷ [])) tens ones)
    ∙ append_assoc (decimal v) (d ∷ []) ds

digits-write : (ds : List ℕ) → 0 < length ds → leading_zero ds ≡ false → every is_digit ds ≡ true → value_from 0 ds < 10 ^ 20 → decimal (value_from 0 ds) ≡ ds
unfolding value_from leading_zero
digits-write [] z p h u = absurd (not-suc-le-zero z)
digits-write (d ∷ []) z p h u =
    let is = and_left (is_digit d) true h in
    let low : 48 ≤ d = leb-true 48 d (and_left (leb 48 d) (leb d 57) is) in
    let high : d ≤ 57 = leb-true d 57 (and_right (leb 48 d) (leb d 57) is) in
    let same : digit (10 * 0 + (d - 48)) ≡ d = omega arith in
    decimal-one (10 * 0 + (d - 48)) (omega arith) ∙ ap (λ (x : ℕ). x ∷ []) same
digits-write (d ∷ (e ∷ es)) z p h u =
    let is = and_left (is_digit d) (every is_digit (e ∷ es)) h in
    let low : 48 ≤ d = leb-true 48 d (and_left (leb 48 d) (leb d 57) is) in
    let high : d ≤ 57 = leb-true d 57 (and_right (leb 48 d) (leb d 57) is) in
    let behind-it : ltb 0 (length (e ∷ es)) ≡ true = lt-ltb 0 (length (e ∷ es)) (omega arith) in
    let other : d ≡ 48 → ⊥ = λ q. both_ways (eqb d 48 && ltb 0 (length (e ∷ es))) (ap₂ ◌&&◌ (eq-eqb d 48 q) behind-it) p in
    let same : digit (10 * 0 + (d - 48)) ≡ d = omega arith in
    value-writes (10 * 0 + (d - 48)) (e ∷ es) (omega arith) (and_right (is_digit d) (every is_digit (e ∷ es)) h) u
    ∙ ap (λ (x : List ℕ). x ++ (e ∷ es)) (decimal-one (10 * 0 + (d - 48)) (omega arith) ∙ ap (λ (x : ℕ). x ∷ []) same)

-- a text of digits is the only one of its number
pub number-writes : (most : ℕ) (ds : List ℕ) → is_number most ds ≡ true → most < 10 ^ 20 → decimal (number_of most ds) ≡ ds
number-writes most ds e u = let r = a-number most ds e in ap decimal r.value ∙ digits-write ds r.some r.plain r.digits (omega (arith, r.small))

-- ---- parts

neither : (a b : Bool) → (a || b) ≡ false → (a ≡ false) × (b ≡ false)
neither true b e = absurd (both_ways true refl e)
neither false b e = (refl, e)

digits-lack : (c : ℕ) (ds : List ℕ) → c < 48 → every is_digit ds ≡ true → is_in c ds ≡ false
unfolding is_in
digits-lack c [] h e = refl
digits-lack c (d ∷ ds) h e =
    let low = leb-true 48 d (and_left (leb 48 d) (leb d 57) (and_left (is_digit d) (every is_digit ds) e)) in
    ap₂ ◌||◌ (ne_eqb d c (λ q. omega arith)) (digits-lack c ds h (and_right (is_digit d) (every is_digit ds) e))

lacks-append : (c : ℕ) (a b : List ℕ) → is_in c a ≡ false → is_in c b ≡ false → is_in c (a ++ b) ≡ false
unfolding is_in
lacks-append c [] b h u = u
lacks-append c (x ∷ a) b h u = let r = neither (eqb x c) (is_in c a) h in ap₂ ◌||◌ r.0 (lacks-append c a b r.1 u)

pub decimal-lacks : (c n : ℕ) → c < 48 → is_in c (decimal n) ≡ false
decimal-lacks c n h = digits-lack c (decimal n) h (digits-all 20 n)

further-lacks : (c : ℕ) (xs : List ℕ) → c < comma → is_in c (further xs) ≡ false
unfolding is_in further
further-lacks c [] h = refl
further-lacks c (x ∷ xs) h = ap₂ ◌||◌ (ne_eqb comma c (λ q. omega arith)) (lacks-append c (decimal x) (further xs) (decimal-lacks c x (omega arith)) (further-lacks c xs h))

pub numbers-lack : (c : ℕ) (xs : List ℕ) → c < comma → is_in c (numbers xs) ≡ false
unfolding is_in numbers
numbers-lack c [] h = refl
numbers-lack c (x ∷ xs) h = lacks-append c (decimal x) (further xs) (decimal-lacks c x (omega arith)) (further-lacks c xs h)

-- no c, no part but the whole; the first c ends the first part
parts_none : (c : ℕ) (p : List ℕ) → is_in c p ≡ false → parts c p ≡ p ∷ []
unfolding is_in parts
parts_none c [] h = refl
parts_none c (b ∷ p) h =
    let r = neither (eqb b c) (is_in c p) h in
    ap₂ (λ (t : Bool) (x : List (List ℕ)). cond t ([] ∷ parts c p) (on_first b x)) r.0 (parts_none c p r.1)

parts-split : (c : ℕ) (p t : List ℕ) → is_in c p ≡ false → parts c (p ++ (c ∷ t)) ≡ p ∷ parts c t
unfolding is_in parts
parts-split c [] t h = ap (λ (q : Bool). cond q ([] ∷ parts c t) (on_first c (parts c t))) (eq-eqb c c refl)
parts-split c (b ∷ p) t h =
    let r = neither (eqb b c) (is_in c p) h in
    ap₂ (λ (q : Bool) (x : List (List ℕ)). cond q ([] ∷ parts c (p ++ (c ∷ t))) (on_first b x)) r.0 (parts-split c p t r.1)

parts-further : (p xs : List ℕ) → is_in comma p ≡ false → parts comma (p ++ further xs) ≡ p ∷ map decimal xs
unfolding further
parts-further p [] h = ap (parts comma) (append-nil p) ∙ parts_none comma p h
parts-further p (x ∷ xs) h =
    parts-split comma p (decimal x ++ further xs) h ∙ ap (λ (t : List (List ℕ)). p ∷ t) (parts-further (decimal x) xs (decimal-lacks comma x (omega arith)))

-- between the commas of a list stand its numbers
fields-numbers : (xs : List ℕ) → fields (numbers xs) ≡ map decimal xs
unfolding fields numbers
fields-numbers [] = refl
fields-numbers (x ∷ xs) =
    fields-some (decimal x ++ further xs) (omega (arith, length-append (decimal x) (further xs), decimal-some x))
    ∙ parts-further (decimal x) xs (decimal-lacks comma x (omega arith))

-- ---- a list

pub list-reads : (most : ℕ) (xs : List ℕ) → ((i : ℕ) → i < length xs → get_or xs i 0 ≤ most) → most < 10 ^ 20 → (is_list most (numbers xs) ≡ true) × (list_of most (numbers xs) ≡ xs)
unfolding is_list list_of
list-reads most xs h u =
    (ap (every (is_number most)) (fields-numbers xs) ∙ (each xs h).0, ap (map (number_of most)) (fields-numbers xs) ∙ (each xs h).1)
  where
    each : (xs : List ℕ) → ((i : ℕ) → i < length xs → get_or xs i 0 ≤ most) → (every (is_number most) (map decimal xs) ≡ true) × (map (number_of most) (map decimal xs) ≡ xs)
    each [] h = (refl, refl)
    each (x ∷ xs) h =
        let n : x ≤ most = h 0 (omega arith) in
        let one = number-reads most x n (omega arith) in
        let rest = each xs (λ i l. h (suc i) (omega arith)) in
        (ap₂ ◌&&◌ one.0 rest.0, ap₂ ◌∷◌ one.1 rest.1)

-- parts with a comma before each, and with commas between them
abbrev ahead : List (List ℕ) → List ℕ
ahead [] = []
ahead (p ∷ ps) = comma ∷ (p ++ ahead ps)

abbrev joined : List (List ℕ) → List ℕ
joined [] = []
joined (p ∷ ps) = p ++ ahead ps

ahead-joined : (ps : List (List ℕ)) → 0 < length ps → ahead ps ≡ comma ∷ joined ps
ahead-joined [] h = absurd (not-suc-le-zero h)
ahead-joined (p ∷ ps) h = refl

first-joined : (b : ℕ) (ps : List (List ℕ)) → joined (on_first b ps) ≡ b ∷ joined ps
first-joined b [] = refl
first-joined b (p ∷ ps) = refl

first_some : (b : ℕ) (ps : List (List ℕ)) → 0 < length (on_first b ps)
first_some b [] = omega arith
first_some b (p ∷ ps) = omega arith

parts-some : (c : ℕ) (t : List ℕ) → 0 < length (parts c t)
unfolding parts
parts-some c [] = omega arith
parts-some c (b ∷ t) = go (eqb b c)
  where
    go : (q : Bool) → 0 < length (cond q ([] ∷ parts c t) (on_first b (parts c t)))
    go true = omega arith
    go false = first_some b (parts c t)

-- the parts, joined again
parts-joined : (t : List ℕ) → joined (parts comma t) ≡ t
unfolding parts
parts-joined [] = refl
parts-joined (b ∷ t) = go (eqb b comma) refl (parts-joined t)
  where
    go : (q : Bool) → eqb b comma ≡ q → joined (parts comma t) ≡ t → joined (cond q ([] ∷ parts comma t) (on_first b (parts comma t))) ≡ b ∷ t
    go true e ih = ahead-joined (parts comma t) (parts-some comma t) ∙ ap₂ ◌∷◌ (sym (eqb-true b comma e)) ih
    go false e ih = first-joined b (parts comma t) ∙ ap (λ (x : List ℕ). b ∷ x) ih

module _ (most : ℕ) (u : most < 10 ^ 20) where
  further-joined : (ps : List (List ℕ)) → every (is_number most) ps ≡ true → further (map (number_of most) ps) ≡ ahead ps
  unfolding further
  further-joined [] h = refl
  further-joined (p ∷ ps) h =
      ap₂ (λ (a b : List ℕ). comma ∷ (a ++ b)) (number-writes most p (and_left (is_number most p) (every (is_number most) ps) h) u) (further-joined ps (and_right (is_number most p) (every (is_number most) ps) h))

  numbers-joined : (ps : List (List ℕ)) → every (is_number most) ps ≡ true → numbers (map (number_of most) ps) ≡ joined ps
  unfolding numbers
  numbers-joined [] h = refl
  numbers-joined (p ∷ ps) h =
      ap₂ (λ (a b : List ℕ). a ++ b) (number-writes most p (and_left (is_number most p) (every (is_number most) ps) h) u) (further-joined ps (and_right (is_number most p) (every (is_number most) ps) h))

-- a text of numbers is the only one of its list
pub list-writes : (most : ℕ) (v : List ℕ) → is_list most v ≡ true → most < 10 ^ 20 → numbers (list_of most v) ≡ v
unfolding is_list list_of fields numbers
list-writes most [] e u = refl
list-writes most (b ∷ v) e u = numbers-joined most u (parts comma (b ∷ v)) e ∙ parts-joined (b ∷ v)

-- ---- a line

before-first : (c : ℕ) (s t : List ℕ) → is_in c s ≡ false → before c (s ++ (c ∷ t)) ≡ s
unfolding is_in before
before-first c [] t h = ap (λ (q : Bool). cond q [] (c ∷ before c t)) (eq-eqb c c refl)
before-first c (b ∷ s) t h =
    let r = neither (eqb b c) (is_in c s) h in
    ap₂ (λ (q : Bool) (x : List ℕ). cond q [] (b ∷ x)) r.0 (before-first c s t r.1)

behind-first : (c : ℕ) (s t : List ℕ) → is_in c s ≡ false → behind c (s ++ (c ∷ t)) ≡ t
unfolding is_in behind
behind-first c [] t h = ap (λ (q : Bool). cond q t (behind c t)) (eq-eqb c c refl)
behind-first c (b ∷ s) t h =
    let r = neither (eqb b c) (is_in c s) h in
    ap₂ (λ (q : Bool) (x : List ℕ). cond q (s ++ (c ∷ t)) x) r.0 (behind-first c s t r.1)

in-first : (c : ℕ) (s t : List ℕ) → is_in c (s ++ (c ∷ t)) ≡ true
unfolding is_in
in-first c [] t = ap (λ (q : Bool). q || is_in c t) (eq-eqb c c refl)
in-first c (b ∷ s) t = ap (λ (q : Bool). eqb b c || q) (in-first c s t) ∙ or-true (eqb b c)

-- a text with a c in it: what is before the first, the c, what is behind it
first-splits : (c : ℕ) (t : List ℕ) → is_in c t ≡ true → t ≡ before c t ++ (c ∷ behind c t)
unfolding is_in before behind
first-splits c [] h = absurd (both_ways false h refl)
first-splits c (b ∷ t) h = go (eqb b c) refl (first-splits c t)
  where
    go : (q : Bool) → eqb b c ≡ q → (is_in c t ≡ true → t ≡ before c t ++ (c ∷ behind c t)) → b ∷ t ≡ cond q [] (b ∷ before c t) ++ (c ∷ cond q t (behind c t))
    go true e ih = ap (λ (x : ℕ). x ∷ t) (eqb-true b c e)
    go false e ih = ap (λ (x : List ℕ). b ∷ x) (ih (sym (ap (λ (q : Bool). q || is_in c t) e) ∙ h))

module _ (key value rest : List ℕ) where
  line-split : line key value ++ rest ≡ (key ++ value) ++ (newline ∷ rest)
  unfolding line
  line-split =
      append_assoc key (value ++ (newline ∷ [])) rest ∙ ap (λ (x : List ℕ). key ++ x) (append_assoc value (newline ∷ []) rest)
      ∙ sym (append_assoc key value (newline ∷ rest))

  -- what is written reads back, and the text goes on behind it
  pub line_reads : is_in newline key ≡ false → is_in newline value ≡ false → (is_line key (line key value ++ rest) ≡ true) × (value_of key (line key value ++ rest) ≡ value) × (behind newline (line key value ++ rest) ≡ rest)
  unfolding is_line value_of
  line_reads h u =
      let both = lacks-append newline key value h u in
      let front : before newline (line key value ++ rest) ≡ key ++ value = ap (before newline) line-split ∙ before-first newline (key ++ value) rest both in (
        ap₂ ◌&&◌ (ap (is_in newline) line-split ∙ in-first newline (key ++ value) rest) (same-list (take (length key) (before newline (line key value ++ rest))) key (ap (take (length key)) front ∙ take-append_seam key value)),
        ap (drop (length key)) front ∙ drop-append_seam key value,
        ap (behind newline) line-split ∙ behind-first newline (key ++ value) rest both,
      )

-- a text that begins with a line is the line of its value and what is behind it
pub line_writes : (key t : List ℕ) → is_line key t ≡ true → t ≡ line key (value_of key t) ++ behind newline t
unfolding is_line value_of
line_writes key t e =
    let ends = and_left (is_in newline t) (same_list (take (length key) (before newline t)) key) e in
    let has : take (length key) (before newline t) ≡ key = list_same (take (length key) (before newline t)) key (and_right (is_in newline t) (same_list (take (length key) (before newline t)) key) e) in
    first-splits newline t ends
    ∙ ap (λ (x : List ℕ). x ++ (newline ∷ behind newline t)) (sym (take-append-drop (length key) (before newline t)) ∙ ap (λ (x : List ℕ). x ++ drop (length key) (before newline t)) has)
    ∙ sym (line-split key (value_of key t) (behind newline t))

-- no number and no list holds a newline
pub decimal-newline : (n : ℕ) → is_in newline (decimal n) ≡ false
decimal-newline n = decimal-lacks newline n (omega arith)

pub numbers-newline : (xs : List ℕ) → is_in newline (numbers xs) ≡ false
numbers-newline xs = numbers-lack newline xs (omega arith)
