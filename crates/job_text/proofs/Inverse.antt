-- Reading and writing a job are each other's inverse: a written job reads back as itself, and a text that is a job is the text of that job and of
-- no other. Assumes nothing.
use mathlib.Core.Path.{◌≡◌, refl, sym, ap, ap₂, ◌∙◌}
use mathlib.Core.Bool.{Bool, true, false, ◌&&◌}
use mathlib.Core.List.{List, [], ◌∷◌, ◌++◌, append-nil}
use Prim.Native.Nat.{ℕ, suc, ◌^◌, ◌≤◌, ◌<◌}
use native.Mathlib.Nat.{suc-ne-zero}
use native.Mathlib.Omega.{arith}
use borrow.Author.Tests.{eqb-true, leb-true, le-leb}
use lib.Dec.{eqb, leb}
use lib.ListN.{length, get_or}
use Rattle.base.specs.Lists.{every, is_in}
use Rattle.base.proofs.Bools.{and_left, and_right}
use Rattle.base.proofs.Lists.{every-at, every-all}
use Rattle.text_writing.specs.Text.{newline, decimal, numbers, line}
use Rattle.text_reading.specs.Reading.{is_number, number_of, is_list, list_of, is_line, value_of, behind, from_line}
use Rattle.text_reading.proofs.Numbers.{number-within}
use Rattle.text_reading.proofs.Fields.{list-within}
use Rattle.text_reading.proofs.Inverse.{number-reads, number-writes, list-reads, list-writes, line_reads, line_writes, decimal-newline, numbers-newline}
use Rattle.job_text.specs.Job.{Job, size_key, blocks_key, ptr_key, cols_key, seeds_key, hops_key, text_limit, most64, most32, text_of_job, at_most, fits, number_at, list_found_at, is_job, job_of}

-- ---- a written job reads back

both : (a b : Bool) → a ≡ true → b ≡ true → (a && b) ≡ true
both a b p q = ap₂ ◌&&◌ p q

module _ (k : ℕ) (key : List ℕ) (most : ℕ) (t rest : List ℕ) (few : most < 10 ^ 20) (plain : is_in newline key ≡ false) where
  number-at : (n : ℕ) → n ≤ most → from_line k t ≡ line key (decimal n) ++ rest
      → (number_at k key most t ≡ true) × (number_of most (value_of key (from_line k t)) ≡ n) × (from_line (suc k) t ≡ rest)
  unfolding number_at from_line
  number-at n h e =
      let l = line_reads key (decimal n) rest plain (decimal-newline n) in
      let r = number-reads most n h (omega (arith, few)) in
      let v : value_of key (from_line k t) ≡ decimal n = ap (value_of key) e ∙ l.1 in (
        both (is_line key (from_line k t)) (is_number most (value_of key (from_line k t))) (ap (is_line key) e ∙ l.0) (ap (is_number most) v ∙ r.0),
        ap (number_of most) v ∙ r.1,
        ap (behind newline) e ∙ l.2,
      )

  list_at : (xs : List ℕ) → every (at_most most) xs ≡ true → from_line k t ≡ line key (numbers xs) ++ rest
      → (list_found_at k key most t ≡ true) × (list_of most (value_of key (from_line k t)) ≡ xs) × (from_line (suc k) t ≡ rest)
  unfolding list_found_at from_line
  list_at xs h e =
      let l = line_reads key (numbers xs) rest plain (numbers-newline xs) in
      let r = list-reads most xs (λ i u. leb-true (get_or xs i 0) most (every-at (at_most most) 0 xs i h u)) few in
      let v : value_of key (from_line k t) ≡ numbers xs = ap (value_of key) e ∙ l.1 in (
        both (is_line key (from_line k t)) (is_list most (value_of key (from_line k t))) (ap (is_line key) e ∙ l.0) (ap (is_list most) v ∙ r.0),
        ap (list_of most) v ∙ r.1,
        ap (behind newline) e ∙ l.2,
      )

few64 : most64 < 10 ^ 20
few64 = omega arith

few32 : most32 < 10 ^ 20
few32 = omega arith

-- the eight conditions of a job, the six of its numbers
eight : (a b c d e f g h : Bool) → a ≡ true → b ≡ true → c ≡ true → d ≡ true → e ≡ true → f ≡ true → g ≡ true → h ≡ true → (a && b && c && d && e && f && g && h) ≡ true
eight a b c d e f g h p q r s t u v w = both _ h (both _ g (both _ f (both _ e (both _ d (both _ c (both a b p q) r) s) t) u) v) w

six : (a b c d e f : Bool) → a ≡ true → b ≡ true → c ≡ true → d ≡ true → e ≡ true → f ≡ true → (a && b && c && d && e && f) ≡ true
six a b c d e f p q r s t u = both _ f (both _ e (both _ d (both _ c (both a b p q) r) s) t) u

of-six : (a b c d e f : Bool) → (a && b && c && d && e && f) ≡ true → (a ≡ true) × (b ≡ true) × (c ≡ true) × (d ≡ true) × (e ≡ true) × (f ≡ true)
of-six a b c d e f h =
    let h5 = and_left (a && b && c && d && e) f h in
    let h4 = and_left (a && b && c && d) e h5 in
    let h3 = and_left (a && b && c) d h4 in
    let h2 = and_left (a && b) c h3 in
    (and_left a b h2, and_right a b h2, and_right (a && b) c h3, and_right (a && b && c) d h4, and_right (a && b && c && d) e h5, and_right (a && b && c && d && e) f h)

pub written-reads : (j : Job) → fits j ≡ true → length (text_of_job j) ≤ text_limit → (is_job (text_of_job j) ≡ true) × (job_of (text_of_job j) ≡ j)
unfolding fits is_job job_of text_of_job from_line is_in
written-reads j e short =
    let t : List ℕ = text_of_job j in
    let R5 : List ℕ = line hops_key (decimal j.hops) in
    let R4 : List ℕ = line seeds_key (numbers j.seeds) ++ R5 in
    let R3 : List ℕ = line cols_key (numbers j.cols) ++ R4 in
    let R2 : List ℕ = line ptr_key (numbers j.ptr) ++ R3 in
    let R1 : List ℕ = line blocks_key (numbers j.blocks) ++ R2 in
    let w = of-six (leb j.size most64) (every (at_most most32) j.blocks) (every (at_most most32) j.ptr) (every (at_most most32) j.cols) (every (at_most most64) j.seeds) (leb j.hops most64) e in
    let a0 = number-at 0 size_key most64 t R1 few64 refl j.size (leb-true j.size most64 w.0) refl in
    let a1 = list_at 1 blocks_key most32 t R2 few32 refl j.blocks w.1 a0.2 in
    let a2 = list_at 2 ptr_key most32 t R3 few32 refl j.ptr w.2 a1.2 in
    let a3 = list_at 3 cols_key most32 t R4 few32 refl j.cols w.3 a2.2 in
    let a4 = list_at 4 seeds_key most64 t R5 few64 refl j.seeds w.4 a3.2 in
    let a5 = number-at 5 hops_key most64 t [] few64 refl j.hops (leb-true j.hops most64 w.5) (a4.2 ∙ sym (append-nil R5)) in (
      eight (leb (length t) text_limit) (number_at 0 size_key most64 t) (list_found_at 1 blocks_key most32 t) (list_found_at 2 ptr_key most32 t) (list_found_at 3 cols_key most32 t) (list_found_at 4 seeds_key most64 t) (number_at 5 hops_key most64 t) (eqb (length (from_line 6 t)) 0)
          (le-leb (length t) text_limit short) a0.0 a1.0 a2.0 a3.0 a4.0 a5.0 (ap (λ (x : List ℕ). eqb (length x) 0) a5.2),
      λ i. record { size = a0.1 i; blocks = a1.1 i; ptr = a2.1 i; cols = a3.1 i; seeds = a4.1 i; hops = a5.1 i },
    )

-- ---- a text that is a job is that job's text

nothing : (l : List ℕ) → length l ≡ 0 → l ≡ []
nothing [] h = refl
nothing (x ∷ xs) h = absurd (suc-ne-zero (length xs) h)

module _ (k : ℕ) (key : List ℕ) (most : ℕ) (t : List ℕ) (few : most < 10 ^ 20) where
  number-line : number_at k key most t ≡ true → from_line k t ≡ line key (decimal (number_of most (value_of key (from_line k t)))) ++ from_line (suc k) t
  unfolding number_at from_line
  number-line e =
      line_writes key (from_line k t) (and_left (is_line key (from_line k t)) (is_number most (value_of key (from_line k t))) e)
      ∙ ap (λ (v : List ℕ). line key v ++ behind newline (from_line k t)) (sym (number-writes most (value_of key (from_line k t)) (and_right (is_line key (from_line k t)) (is_number most (value_of key (from_line k t))) e) few))

  list-line : list_found_at k key most t ≡ true → from_line k t ≡ line key (numbers (list_of most (value_of key (from_line k t)))) ++ from_line (suc k) t
  unfolding list_found_at from_line
  list-line e =
      line_writes key (from_line k t) (and_left (is_line key (from_line k t)) (is_list most (value_of key (from_line k t))) e)
      ∙ ap (λ (v : List ℕ). line key v ++ behind newline (from_line k t)) (sym (list-writes most (value_of key (from_line k t)) (and_right (is_line key (from_line k t)) (is_list most (value_of key (from_line k t))) e) few))

-- every number of a list that was read is at most the most
list-most : (most : ℕ) (v : List ℕ) → every (at_most most) (list_of most v) ≡ true
list-most most v = every-all (at_most most) 0 (list_of most v) (λ i h. le-leb (get_or (list_of most v) i 0) most (list-within most v i h))

pub reads_fit : (t : List ℕ) → fits (job_of t) ≡ true
unfolding fits job_of
reads_fit t =
    six (leb (job_of t).size most64) (every (at_most most32) (job_of t).blocks) (every (at_most most32) (job_of t).ptr) (every (at_most most32) (job_of t).cols) (every (at_most most64) (job_of t).seeds) (leb (job_of t).hops most64)
    (le-leb (job_of t).size most64 (number-within most64 (value_of size_key (from_line 0 t))))
    (list-most most32 (value_of blocks_key (from_line 1 t)))
    (list-most most32 (value_of ptr_key (from_line 2 t)))
    (list-most most32 (value_of cols_key (from_line 3 t)))
    (list-most most64 (value_of seeds_key (from_line 4 t)))
    (le-leb (job_of t).hops most64 (number-within most64 (value_of hops_key (from_line 5 t))))

pub reads-written : (t : List ℕ) → is_job t ≡ true → text_of_job (job_of t) ≡ t
unfolding is_job job_of text_of_job from_line
reads-written t e =
    let few : Bool = leb (length t) text_limit in
    let ended : Bool = eqb (length (from_line 6 t)) 0 in
    let n0 : Bool = number_at 0 size_key most64 t in
    let q1 : Bool = list_found_at 1 blocks_key most32 t in
    let q2 : Bool = list_found_at 2 ptr_key most32 t in
    let q3 : Bool = list_found_at 3 cols_key most32 t in
    let q4 : Bool = list_found_at 4 seeds_key most64 t in
    let n5 : Bool = number_at 5 hops_key most64 t in
    let e7 = and_left (few && n0 && q1 && q2 && q3 && q4 && n5) ended e in
    let w = of-six (few && n0) q1 q2 q3 q4 n5 e7 in
    let end : from_line 6 t ≡ [] = nothing (from_line 6 t) (eqb-true (length (from_line 6 t)) 0 (and_right (few && n0 && q1 && q2 && q3 && q4 && n5) ended e)) in
    let l0 = number-line 0 size_key most64 t few64 (and_right few n0 w.0) in
    let l1 = list-line 1 blocks_key most32 t few32 w.1 in
    let l2 = list-line 2 ptr_key most32 t few32 w.2 in
    let l3 = list-line 3 cols_key most32 t few32 w.3 in
    let l4 = list-line 4 seeds_key most64 t few64 w.4 in
    let l5 = number-line 5 hops_key most64 t few64 w.5 in
    sym
    (l0
    ∙ ap (λ (x : List ℕ). line size_key (decimal (job_of t).size) ++ x)
    (l1
    ∙ ap (λ (x : List ℕ). line blocks_key (numbers (job_of t).blocks) ++ x)
    (l2
    ∙ ap (λ (x : List ℕ). line ptr_key (numbers (job_of t).ptr) ++ x)
    (l3
    ∙ ap (λ (x : List ℕ). line cols_key (numbers (job_of t).cols) ++ x)
    (l4
    ∙ ap (λ (x : List ℕ). line seeds_key (numbers (job_of t).seeds) ++ x)
    (l5 ∙ ap (λ (x : List ℕ). line hops_key (decimal (job_of t).hops) ++ x) end ∙ append-nil (line hops_key (decimal (job_of t).hops))))))))
