-- The list of growths on lent lists, growth by growth: what holds after each, for plain growths and for field growths alike. Assumes nothing.
use mathlib.Core.Path.{◌≡◌, refl, sym, ap, ap₂, ◌∙◌, subst}
use Rattle.std.specs.Prelude.{Result, Ok, Err}
use Rattle.base.specs.Checks.{Check}
use Rattle.base.specs.declared.Refusal.TheVariants.{ListTooShort}
use mathlib.Core.Bool.{Bool, true, false, cond}
use mathlib.Core.List.{List, ◌++◌, append_assoc}
use Prim.Native.Nat.{ℕ, zero, suc, ◌+◌, ◌≤◌, min}
use native.Mathlib.Omega.{arith}
use native.Mathlib.Numerals.{add-one}
use borrow.Author.Tests.{eq-eqb, ne_eqb, leb-true}
use lib.Dec.{leb, eqb}
use lib.ListN.{length, get_or, take, drop, replicate, length-append, length-replicate, take-append-drop}
use lib.Seq.{length-take-le, drop-append-le, take_at, drop_at}
use Rattle.base.specs.Checks.{answer, leaves}
use Rattle.base.specs.Lists.{over}
use Rattle.base.specs.Sets.{sum_below, one_if}
use Rattle.base.specs.declared.Refusal.{Refusal}
use Rattle.base.proofs.Checks.{pass, stop, last-pass, both-passed, length-passed}
use Rattle.base.proofs.Sets.{sum-suc}
use Rattle.mask.specs.Mask.{in_mask, words_needed, shape_check, length_check}
use Rattle.mask.proofs.Masks.{mask-cong}
use Rattle.graph.specs.Network.{Network, linked, seeded, in_region, in_frontier, region_words, frontier_words}
use Rattle.graph.proofs.Distances.{exactly-zero}
use Rattle.graph.proofs.Networks.{regrow-region, regrow-frontier, region-cap, frontier-cap}
use Rattle.growth.specs.Lent.{masks_room, region_left, frontier_left, scratch_left}
use Rattle.growth.proofs.Lent.{region-length, frontier-length}
use Rattle.region.specs.Growth.{grow_check}
use Rattle.field_region.specs.Growth.{field_grow_check}
use Rattle.growths.specs.Runs.{largest, Ground, check_of}
use Rattle.growths.specs.Counts.{takes, accepted_in, total_in, last_in, ran_of, counted_by, seeds_after, region_once_grown, frontier_once_grown, scratch_once_grown}
use Rattle.growths.specs.declared.Ran.{Ran}
use Rattle.growths.specs.Solid.{Solid}
use Rattle.growths.proofs.Grounds.{region-accepted}

-- ---- what an answer says of the checks

forget : {A : Type 0} → Result A Refusal → Check
forget (Ok a) = Ok tt
forget (Err r) = Err r

pub taken : {A : Type 0} (check : Check) (a x : A) → answer check a ≡ Ok x → check ≡ Ok tt
unfolding forget
taken (Ok _) a x e = refl
taken (Err q) a x e = ap forget e

pub refused : {A : Type 0} (check : Check) (a : A) (r : Refusal) → answer check a ≡ Err r → check ≡ Err r
unfolding forget
refused (Ok _) a r e = ap forget e
refused (Err q) a r e = ap forget e

-- what a call left, accepted and refused
pub left-new : {A : Type 0} (check : Check) (new old x : A) → check ≡ Ok tt → x ≡ leaves check new old → x ≡ new
left-new check new old x e h = h ∙ ap (λ (t : Check). leaves t new old) e

pub left-old : {A : Type 0} (check : Check) (r : Refusal) (new old x : A) → check ≡ Err r → x ≡ leaves check new old → x ≡ old
left-old check r new old x e h = h ∙ ap (λ (t : Check). leaves t new old) e

-- ---- the region's own words, after an accepted growth: they are the next seeds

module _ (g : Network) (seeds : List ℕ) (h : ℕ) (check : Check) (lent left : List ℕ) (ok : check ≡ Ok tt) (e : left ≡ region_left check g seeds h lent) (own : length seeds ≡ words_needed g.nodes) where
  pub own_is : left ≡ over (region_words g seeds h) lent
  own_is = left-new check (over (region_words g seeds h) lent) lent left ok e

  pub own_room : length seeds ≤ length left
  own_room = omega (arith, length-append (region_words g seeds h) (drop (length (region_words g seeds h)) lent), ap length own_is, region-length g seeds h)

  pub own-take : take (length seeds) left ≡ region_words g seeds h
  own-take = ap (take (length seeds)) own_is ∙ take_at (region_words g seeds h) (drop (length (region_words g seeds h)) lent) (length seeds) (region-length g seeds h ∙ sym own)

  pub own-needed : length seeds ≡ length (take (length seeds) left)
  own-needed = own ∙ sym (region-length g seeds h) ∙ ap length (sym own-take)

-- ---- with no hop, the frontier is the region

pub frontier-start : (g : Network) (seeds : List ℕ) → frontier_words g seeds 0 ≡ region_words g seeds 0
unfolding region_words frontier_words
frontier-start g seeds = mask-cong g.nodes (in_frontier g (in_mask seeds) 0) (in_region g (in_mask seeds) 0) (λ i h. sym (exactly-zero g.blocks (linked g) (seeded g (in_mask seeds)) (g.block i)))

-- ---- lists written over again

over-part : (X l : List ℕ) (part : ℕ) → length X ≤ part → part ≤ length l → over X (take part l) ++ drop part l ≡ over X l
over-part X l part h p =
    let fits : length X ≤ length (take part l) = omega (arith, length-take-le part l p) in
    append_assoc X (drop (length X) (take part l)) (drop part l)
    ∙ ap (λ (r : List ℕ). X ++ r) (sym (drop-append-le (length X) (take part l) (drop part l) fits) ∙ ap (drop (length X)) (take-append-drop part l))

over-over : (X Y l : List ℕ) → length X ≡ length Y → over X (over Y l) ≡ over X l
over-over X Y l e = ap (λ (r : List ℕ). X ++ r) (drop_at Y (drop (length Y) l) (length X) (sym e) ∙ ap (λ (n : ℕ). drop n l) (sym e))

over-either : (b : Bool) (X Y l : List ℕ) → length X ≡ length Y → over X (cond b l (over Y l)) ≡ over X l
over-either true X Y l e = refl
over-either false X Y l e = over-over X Y l e

module _ (X Y lent held : List ℕ) (b : Bool) (part : ℕ) (same : length X ≡ length Y) (e : held ≡ cond b lent (over Y lent)) (fits : length X ≤ part) (room : part ≤ length held) where
  again : over X (take part held) ++ drop part held ≡ over X lent
  again = over-part X held part fits room ∙ ap (over X) e ∙ over-either b X Y lent same

-- ---- the counts, one growth more

module _ (needed : ℕ) (hops rooms : List ℕ) (shortest i : ℕ) where
  abbrev made : ℕ → ℕ → ℕ → Ran
  made a t l = record { accepted = a; total = t; last = l }

  pub accepted-next : accepted_in needed rooms shortest (i + 1) ≡ accepted_in needed rooms shortest i + one_if (takes needed rooms shortest i)
  accepted-next = sum-suc i (λ j. one_if (takes needed rooms shortest j))

  pub total-next : total_in needed hops rooms shortest (i + 1) ≡ total_in needed hops rooms shortest i + cond (takes needed rooms shortest i) (get_or hops i 0) 0
  total-next = sum-suc i (λ j. cond (takes needed rooms shortest j) (get_or hops j 0) 0)

  pub last-next : last_in needed hops rooms shortest (i + 1) ≡ cond (takes needed rooms shortest i) (get_or hops i 0) (last_in needed hops rooms shortest i)
  unfolding last_in
  last-next = ap (last_in needed hops rooms shortest) (add-one i)

  same-ran : (a a' t t' l l' : ℕ) → a ≡ a' → t ≡ t' → l ≡ l' → made a t l ≡ made a' t' l'
  same-ran a a' t t' l l' ea et el = ap₂ (λ (x y : ℕ). made x y l) ea et ∙ ap (λ (x : ℕ). made a' t' x) el

  pub ran-more : takes needed rooms shortest i ≡ true → counted_by (ran_of needed hops rooms shortest i) (get_or hops i 0) ≡ ran_of needed hops rooms shortest (i + 1)
  ran-more e =
      let a : accepted_in needed rooms shortest (i + 1) ≡ accepted_in needed rooms shortest i + 1 = accepted-next ∙ ap (λ (b : Bool). accepted_in needed rooms shortest i + one_if b) e in
      let t : total_in needed hops rooms shortest (i + 1) ≡ total_in needed hops rooms shortest i + get_or hops i 0 = total-next ∙ ap (λ (b : Bool). total_in needed hops rooms shortest i + cond b (get_or hops i 0) 0) e in
      let m : min (min (total_in needed hops rooms shortest i) largest + get_or hops i 0) largest ≡ min (total_in needed hops rooms shortest (i + 1)) largest = omega arith in
      let l : last_in needed hops rooms shortest (i + 1) ≡ get_or hops i 0 = last-next ∙ ap (λ (b : Bool). cond b (get_or hops i 0) (last_in needed hops rooms shortest i)) e in
      same-ran _ _ _ _ _ _ (sym a) m (sym l)

  pub ran-less : takes needed rooms shortest i ≡ false → ran_of needed hops rooms shortest i ≡ ran_of needed hops rooms shortest (i + 1)
  ran-less e =
      let a : accepted_in needed rooms shortest (i + 1) ≡ accepted_in needed rooms shortest i + 0 = accepted-next ∙ ap (λ (b : Bool). accepted_in needed rooms shortest i + one_if b) e in
      let a' : accepted_in needed rooms shortest i ≡ accepted_in needed rooms shortest (i + 1) = omega arith in
      let t : total_in needed hops rooms shortest (i + 1) ≡ total_in needed hops rooms shortest i + 0 = total-next ∙ ap (λ (b : Bool). total_in needed hops rooms shortest i + cond b (get_or hops i 0) 0) e in
      let m : min (total_in needed hops rooms shortest i) largest ≡ min (total_in needed hops rooms shortest (i + 1)) largest = omega arith in
      let l : last_in needed hops rooms shortest (i + 1) ≡ last_in needed hops rooms shortest i = last-next ∙ ap (λ (b : Bool). cond b (get_or hops i 0) (last_in needed hops rooms shortest i)) e in
      same-ran _ _ _ _ _ _ a' m (sym l)

pub ran-none : (needed : ℕ) (hops rooms : List ℕ) (shortest : ℕ) → record { accepted = 0; total = 0; last = 0 } ≡ ran_of needed hops rooms shortest 0
unfolding last_in sum_below
ran-none needed hops rooms shortest = refl

-- ---- what holds after i growths

pub record Turn (needed : ℕ) (g : Network) (hops rooms : List ℕ) (shortest : ℕ) (first region₀ frontier₀ scratch₀ : List ℕ) (i : ℕ) (ran : Ran) (seeds region frontier scratch : List ℕ) : Type 0 where
  pub counts : ran ≡ ran_of needed hops rooms shortest i
  pub few : ran.accepted ≤ i
  pub none : ran.accepted ≡ 0 → ran.total ≡ 0
  pub renewed : seeds ≡ seeds_after g ran first
  pub inside : region ≡ region_once_grown g ran first region₀
  pub edge : frontier ≡ frontier_once_grown g ran first frontier₀
  pub spent : scratch ≡ scratch_once_grown g ran scratch₀

pub turn-none : (needed : ℕ) (g : Network) (hops rooms : List ℕ) (shortest : ℕ) (first region frontier scratch : List ℕ)
    → Turn needed g hops rooms shortest first region frontier scratch 0 (record { accepted = 0; total = 0; last = 0 }) first region frontier scratch
turn-none needed g hops rooms shortest first region frontier scratch =
    record {
      counts = ran-none needed hops rooms shortest;
      few = omega arith;
      none = λ e. refl;
      renewed = refl;
      inside = refl;
      edge = refl;
      spent = refl;
    }

turn-as : (needed : ℕ) (g : Network) (hops rooms : List ℕ) (shortest : ℕ) (first region₀ frontier₀ scratch₀ : List ℕ) (i : ℕ) (ran : Ran) (seeds region frontier scratch : List ℕ) (ran' : Ran) (seeds' region' frontier' scratch' : List ℕ)
    → ran' ≡ ran → seeds' ≡ seeds → region' ≡ region → frontier' ≡ frontier → scratch' ≡ scratch
    → Turn needed g hops rooms shortest first region₀ frontier₀ scratch₀ i ran seeds region frontier scratch
    → Turn needed g hops rooms shortest first region₀ frontier₀ scratch₀ i ran' seeds' region' frontier' scratch'
turn-as needed g hops rooms shortest first region₀ frontier₀ scratch₀ i ran seeds region frontier scratch ran' seeds' region' frontier' scratch' er es eg ef ez t =
    subst (λ (r : Ran). Turn needed g hops rooms shortest first region₀ frontier₀ scratch₀ i r seeds' region' frontier' scratch') (sym er)
    (subst (λ (l : List ℕ). Turn needed g hops rooms shortest first region₀ frontier₀ scratch₀ i ran l region' frontier' scratch') (sym es)
    (subst (λ (l : List ℕ). Turn needed g hops rooms shortest first region₀ frontier₀ scratch₀ i ran seeds l frontier' scratch') (sym eg)
    (subst (λ (l : List ℕ). Turn needed g hops rooms shortest first region₀ frontier₀ scratch₀ i ran seeds region l scratch') (sym ef)
    (subst (λ (l : List ℕ). Turn needed g hops rooms shortest first region₀ frontier₀ scratch₀ i ran seeds region frontier l) (sym ez) t))))

-- a list of just the needed length is long enough for the three masks, and a shorter one is not
pub room-enough : (n p : ℕ) → leb (words_needed n) p ≡ true → masks_room n p p p ≡ Ok tt
unfolding masks_room
room-enough n p e = sym (pass _ _ _ _ e (pass _ _ _ _ e (last-pass _ _ _ e refl)))

pub room-short : (n p : ℕ) → leb (words_needed n) p ≡ false → masks_room n p p p ≡ Err ListTooShort
unfolding masks_room
room-short n p e = sym (stop _ _ _ _ e refl)

-- the length that accepted seeds have, and how many words
pub seeds-len : (side len : ℕ) (words : List ℕ) → length_check side len words ≡ Ok tt → len ≡ side
unfolding length_check
seeds-len side len words e = length-passed side len (both-passed _ _ e).0

pub seeds-words : (side len : ℕ) (words : List ℕ) → length_check side len words ≡ Ok tt → length words ≡ words_needed side
unfolding length_check shape_check
seeds-words side len words e =
    length-passed _ _ (both-passed _ _ (both-passed _ _ e).1).0 ∙ ap words_needed (seeds-len side len words e)

pub plain-own : (topology : Check) (nrows ncols len : ℕ) (seeds region frontier scratch : List ℕ) → grow_check topology nrows ncols len seeds region frontier scratch ≡ Ok tt → length seeds ≡ words_needed nrows
unfolding grow_check
plain-own topology nrows ncols len seeds region frontier scratch e = seeds-words nrows len seeds (both-passed _ _ (both-passed _ _ e).1).0

pub field-own : (topology square : Check) (total len : ℕ) (seeds region frontier scratch : List ℕ) → field_grow_check topology square total len seeds region frontier scratch ≡ Ok tt → length seeds ≡ words_needed total
unfolding field_grow_check
field-own topology square total len seeds region frontier scratch e = seeds-words total len seeds (both-passed _ _ (both-passed _ _ (both-passed _ _ e).1).1).0

pub some : {A : Type 0} (n : ℕ) (x y : A) → 1 ≤ n → cond (eqb n 0) x y ≡ y
some n x y l = ap (λ (b : Bool). cond b x y) (ne_eqb n 0 (λ e. omega arith))

pub no_more : {A : Type 0} (n : ℕ) (x y : A) → n ≡ 0 → cond (eqb n 0) x y ≡ x
no_more n x y l = ap (λ (b : Bool). cond b x y) (eq-eqb n 0 l)

pub grown-none : {A : Type 0} (n : ℕ) (new old : A) → n ≡ 0 → old ≡ cond (eqb n 0) old new
grown-none n new old e = sym (no_more n old new e)

pub grown-some : {A : Type 0} (n : ℕ) (new old : A) → (n ≡ 0 → ⊥) → new ≡ cond (eqb n 0) old new
grown-some n new old d = ap (λ (b : Bool). cond b old new) (sym (ne_eqb n 0 d))

module _ (side len : ℕ) (k : Ground) (solid : Solid side len k) (hops rooms : List ℕ) (shortest : ℕ) (first region₀ frontier₀ scratch₀ : List ℕ) (ok : length_check side len first ≡ Ok tt)
    (i : ℕ) (ran : Ran) (seeds region frontier scratch : List ℕ) (t : Turn (words_needed k.network.nodes) k.network hops rooms shortest first region₀ frontier₀ scratch₀ i ran seeds region frontier scratch) where
  abbrev g : Network
  g = k.network

  -- the seeds are accepted ones all along
  pub turn-seeds : length_check side len seeds ≡ Ok tt
  turn-seeds = go ran.accepted refl
    where
      go : (n : ℕ) → ran.accepted ≡ n → length_check side len seeds ≡ Ok tt
      go zero e = subst (λ (w : List ℕ). length_check side len w ≡ Ok tt) (sym (t.renewed ∙ no_more ran.accepted _ _ e)) ok
      go (suc n) e =
          let l : 1 ≤ ran.accepted = omega arith in
          subst (λ (w : List ℕ). length_check side len w ≡ Ok tt) (sym (t.renewed ∙ some ran.accepted _ _ l)) (region-accepted side len k solid first ran.total)

  -- from the seeds as from the first ones, by the total
  grow-region : (h : ℕ) → region_words g seeds h ≡ region_words g first (min (ran.total + h) largest)
  grow-region h = go ran.accepted refl ∙ region-cap g solid.whole largest solid.few first (ran.total + h)
    where
      go : (n : ℕ) → ran.accepted ≡ n → region_words g seeds h ≡ region_words g first (ran.total + h)
      go zero e =
          let n : h ≡ ran.total + h = omega (arith, t.none e) in
          ap₂ (λ (s : List ℕ) (m : ℕ). region_words g s m) (t.renewed ∙ no_more ran.accepted _ _ e) n
      go (suc n) e =
          let l : 1 ≤ ran.accepted = omega arith in
          let m : h + ran.total ≡ ran.total + h = omega arith in
          ap (λ (s : List ℕ). region_words g s h) (t.renewed ∙ some ran.accepted _ _ l) ∙ regrow-region g first ran.total h ∙ ap (λ (n : ℕ). region_words g first n) m

  grow-frontier : (h : ℕ) → 1 ≤ h → frontier_words g seeds h ≡ frontier_words g first (min (ran.total + h) largest)
  grow-frontier h by = go ran.accepted refl ∙ frontier-cap g solid.whole largest solid.few first (ran.total + h)
    where
      go : (n : ℕ) → ran.accepted ≡ n → frontier_words g seeds h ≡ frontier_words g first (ran.total + h)
      go zero e =
          let n : h ≡ ran.total + h = omega (arith, t.none e) in
          ap₂ (λ (s : List ℕ) (m : ℕ). frontier_words g s m) (t.renewed ∙ no_more ran.accepted _ _ e) n
      go (suc n) e =
          let l : 1 ≤ ran.accepted = omega arith in
          let m : h + ran.total ≡ ran.total + h = omega arith in
          ap (λ (s : List ℕ). frontier_words g s h) (t.renewed ∙ some ran.accepted _ _ l) ∙ regrow-frontier g first ran.total h by ∙ ap (λ (n : ℕ). frontier_words g first n) m

  -- what the frontier is of, by the last count
  abbrev edge_words : ℕ → ℕ → List ℕ
  edge_words last total = cond (eqb last 0) (region_words g first total) (frontier_words g first total)

  edge-length : (last total : ℕ) → length (edge_words last total) ≡ words_needed g.nodes
  edge-length last total = go (eqb last 0)
    where
      go : (b : Bool) → length (cond b (region_words g first total) (frontier_words g first total)) ≡ words_needed g.nodes
      go true = region-length g first total
      go false = frontier-length g first total

  grow-edge : (h : ℕ) → frontier_words g seeds h ≡ edge_words h (min (ran.total + h) largest)
  grow-edge h = go h refl
    where
      go : (n : ℕ) → h ≡ n → frontier_words g seeds h ≡ edge_words h (min (ran.total + h) largest)
      go zero e = ap (frontier_words g seeds) e ∙ frontier-start g seeds ∙ ap (region_words g seeds) (sym e) ∙ grow-region h ∙ sym (no_more h _ _ e)
      go (suc n) e =
          let l : 1 ≤ h = omega arith in
          grow-frontier h l ∙ sym (some h _ _ l)

  -- growth i, lent the first `part` words of each list
  module _ (part : ℕ) (is-part : part ≡ min (get_or rooms i 0) shortest) (region_room : part ≤ length region) (frontier_room : part ≤ length frontier) (scratch_room : part ≤ length scratch) where
    abbrev h : ℕ
    h = get_or hops i 0

    abbrev zeros : List ℕ
    zeros = replicate (words_needed g.nodes) 0

    accepted-turn : takes (words_needed g.nodes) rooms shortest i ≡ true
        → Turn (words_needed g.nodes) g hops rooms shortest first region₀ frontier₀ scratch₀ (i + 1) (counted_by ran h) (region_words g seeds h) (over (region_words g seeds h) (take part region) ++ drop part region) (over (frontier_words g seeds h) (take part frontier) ++ drop part frontier) (over zeros (take part scratch) ++ drop part scratch)
    accepted-turn e =
        let fits : words_needed g.nodes ≤ part = omega (arith, is-part, leb-true (words_needed g.nodes) (min (get_or rooms i 0) shortest) e) in
        let one : 1 ≤ ran.accepted + 1 = omega arith in
        let fits-region : length (region_words g seeds h) ≤ part = omega (arith, fits, region-length g seeds h) in
        let fits-frontier : length (frontier_words g seeds h) ≤ part = omega (arith, fits, frontier-length g seeds h) in
        let fits-zeros : length zeros ≤ part = omega (arith, fits, length-replicate {A = ℕ} (words_needed g.nodes) 0) in
        let same_region : length (region_words g seeds h) ≡ length (region_words g first ran.total) = region-length g seeds h ∙ sym (region-length g first ran.total) in
        let same_frontier : length (frontier_words g seeds h) ≡ length (edge_words ran.last ran.total) = frontier-length g seeds h ∙ sym (edge-length ran.last ran.total) in
        record {
          counts = ap (λ (r : Ran). counted_by r h) t.counts ∙ ran-more (words_needed g.nodes) hops rooms shortest i e;
          few = omega (arith, t.few);
          none = λ z. absurd (omega arith);
          renewed = grow-region h ∙ sym (some (ran.accepted + 1) _ _ one);
          inside = again (region_words g seeds h) (region_words g first ran.total) region₀ region (eqb ran.accepted 0) part same_region t.inside fits-region region_room
              ∙ ap (λ (w : List ℕ). over w region₀) (grow-region h) ∙ sym (some (ran.accepted + 1) _ _ one);
          edge = again (frontier_words g seeds h) (edge_words ran.last ran.total) frontier₀ frontier (eqb ran.accepted 0) part same_frontier t.edge fits-frontier frontier_room
              ∙ ap (λ (w : List ℕ). over w frontier₀) (grow-edge h) ∙ sym (some (ran.accepted + 1) _ _ one);
          spent = again zeros zeros scratch₀ scratch (eqb ran.accepted 0) part refl t.spent fits-zeros scratch_room ∙ sym (some (ran.accepted + 1) _ _ one);
        }

    refused-turn : takes (words_needed g.nodes) rooms shortest i ≡ false
        → Turn (words_needed g.nodes) g hops rooms shortest first region₀ frontier₀ scratch₀ (i + 1) ran seeds (take part region ++ drop part region) (take part frontier ++ drop part frontier) (take part scratch ++ drop part scratch)
    refused-turn e =
        record {
          counts = t.counts ∙ ran-less (words_needed g.nodes) hops rooms shortest i e;
          few = omega (arith, t.few);
          none = t.none;
          renewed = t.renewed;
          inside = take-append-drop part region ∙ t.inside;
          edge = take-append-drop part frontier ∙ t.edge;
          spent = take-append-drop part scratch ∙ t.spent;
        }

    -- by its check, which is the room's
    module _ (check : Check) (checked : check ≡ check_of k seeds (record { hops = h; region = take part region; frontier = take part frontier; scratch = take part scratch })) where
      check-is : check ≡ masks_room g.nodes part part part
      check-is =
          checked
          ∙ solid.room seeds turn-seeds (record { hops = h; region = take part region; frontier = take part frontier; scratch = take part scratch })
          ∙ ap₂ (λ (a b : ℕ). masks_room side a b (length (take part scratch))) (length-take-le part region region_room) (length-take-le part frontier frontier_room)
          ∙ ap (masks_room side part part) (length-take-le part scratch scratch_room)
          ∙ ap (λ (n : ℕ). masks_room n part part part) (sym solid.nodes)

      pub turn : (ran' : Ran) (seeds' region' frontier' scratch' : List ℕ)
          → ran' ≡ leaves check (counted_by ran h) ran
          → seeds' ≡ leaves check (region_words g seeds h) seeds
          → region' ≡ region_left check g seeds h (take part region)
          → frontier' ≡ frontier_left check g seeds h (take part frontier)
          → scratch' ≡ scratch_left check g.nodes (take part scratch)
          → Turn (words_needed g.nodes) g hops rooms shortest first region₀ frontier₀ scratch₀ (i + 1) ran' seeds' (region' ++ drop part region) (frontier' ++ drop part frontier) (scratch' ++ drop part scratch)
      turn ran' seeds' region' frontier' scratch' er es eg ef ez = go (takes (words_needed g.nodes) rooms shortest i) refl
        where
          go : (b : Bool) → takes (words_needed g.nodes) rooms shortest i ≡ b
              → Turn (words_needed g.nodes) g hops rooms shortest first region₀ frontier₀ scratch₀ (i + 1) ran' seeds' (region' ++ drop part region) (frontier' ++ drop part frontier) (scratch' ++ drop part scratch)
          go true e =
              let a : check ≡ (Ok tt) = check-is ∙ room-enough g.nodes part (ap (leb (words_needed g.nodes)) is-part ∙ e) in
              turn-as _ _ _ _ _ _ _ _ _ _ _ _ _ _ _ _ _ _ _ _ (left-new _ _ _ _ a er) (left-new _ _ _ _ a es) (ap (λ (l : List ℕ). l ++ drop part region) (left-new _ _ _ _ a eg)) (ap (λ (l : List ℕ). l ++ drop part frontier) (left-new _ _ _ _ a ef)) (ap (λ (l : List ℕ). l ++ drop part scratch) (left-new _ _ _ _ a ez))
              (accepted-turn e)
          go false e =
              let a : check ≡ Err ListTooShort = check-is ∙ room-short g.nodes part (ap (leb (words_needed g.nodes)) is-part ∙ e) in
              turn-as _ _ _ _ _ _ _ _ _ _ _ _ _ _ _ _ _ _ _ _ (left-old _ _ _ _ _ a er) (left-old _ _ _ _ _ a es) (ap (λ (l : List ℕ). l ++ drop part region) (left-old _ _ _ _ _ a eg)) (ap (λ (l : List ℕ). l ++ drop part frontier) (left-old _ _ _ _ _ a ef)) (ap (λ (l : List ℕ). l ++ drop part scratch) (left-old _ _ _ _ _ a ez))
              (refused-turn e)
