-- What is read of a text line by line is what the whole says. Assumes nothing.
use mathlib.Core.Path.{◌≡◌, refl, ap, ap₂, ◌∙◌}
use mathlib.Core.Bool.{Bool, true, false, ◌&&◌, and-true, and-false}
use mathlib.Core.List.{List}
use Prim.Native.Nat.{ℕ}
use lib.Dec.{eqb, leb}
use lib.ListN.{length}
use Rattle.std.specs.Prelude.{is_ok}
use Rattle.std.specs.Result.{result_ok}
use Rattle.std.specs.Bool.{then_some}
use Rattle.text_reading.specs.Reading.{told, from_line}
use Rattle.job_text.specs.Job.{size_key, blocks_key, ptr_key, cols_key, seeds_key, hops_key, text_limit, most64, most32, number_at, list_found_at, is_job, job_of, figures_of, job_found, figure_of, figures_read}

-- whether what was read is a figure, and which
ok-told : {A : Type 0} (b : Bool) (x : A) → is_ok (told b x) ≡ b
ok-told true x = refl
ok-told false x = refl

pub figure-told : {A : Type 0} (b : Bool) (x : A) → figure_of (told b x) ≡ x
figure-told true x = refl
figure-told false x = refl

-- figures that are each told under a condition are all told under all of them
pub figures-all :
    (a b c d e f : Bool) (size blocks pointers columns seeds hops : ℕ)
    → figures_read (told a size) (told b blocks) (told c pointers) (told d columns) (told e seeds) (told f hops)
    ≡ told (a && b && c && d && e && f) (record { size = size; blocks = blocks; pointers = pointers; columns = columns; seeds = seeds; hops = hops })
figures-all a b c d e f size blocks pointers columns seeds hops = λ i.
    told (ok-told a size i && ok-told b blocks i && ok-told c pointers i && ok-told d columns i && ok-told e seeds i && ok-told f hops i)
    (record { size = figure-told a size i; blocks = figure-told b blocks i; pointers = figure-told c pointers i; columns = figure-told d columns i; seeds = figure-told e seeds i; hops = figure-told f hops i })

-- the figures of a job, where they are told of one
pub job-told : (t : List ℕ) → result_ok (told (is_job t) (figures_of (job_of t))) ≡ job_found t
job-told t = go (is_job t)
  where
    go : (b : Bool) → result_ok (told b (figures_of (job_of t))) ≡ then_some b (figures_of (job_of t))
    go true = refl
    go false = refl

-- the six lines are those of a job
abbrev pub six_lines : List ℕ → Bool
six_lines t = number_at 0 size_key most64 t && list_found_at 1 blocks_key most32 t && list_found_at 2 ptr_key most32 t && list_found_at 3 cols_key most32 t && list_found_at 4 seeds_key most64 t && number_at 5 hops_key most64 t

module _ (t : List ℕ) where
  job-parts : is_job t ≡ (leb (length t) text_limit && six_lines t && eqb (length (from_line 6 t)) 0)
  unfolding is_job
  job-parts = go (leb (length t) text_limit)
    where
      go :
          (few : Bool)
          → (few && number_at 0 size_key most64 t && list_found_at 1 blocks_key most32 t && list_found_at 2 ptr_key most32 t && list_found_at 3 cols_key most32 t && list_found_at 4 seeds_key most64 t && number_at 5 hops_key most64 t && eqb (length (from_line 6 t)) 0)
          ≡ (few && six_lines t && eqb (length (from_line 6 t)) 0)
      go true = refl
      go false = refl

  pub job-whole : leb (length t) text_limit ≡ true → eqb (length (from_line 6 t)) 0 ≡ true → is_job t ≡ six_lines t
  job-whole few end = job-parts ∙ ap₂ (λ (a b : Bool). a && six_lines t && b) few end ∙ and-true (six_lines t)

  pub job-long : leb (length t) text_limit ≡ false → is_job t ≡ false
  job-long long = job-parts ∙ ap (λ (a : Bool). a && six_lines t && eqb (length (from_line 6 t)) 0) long

  pub job-more : eqb (length (from_line 6 t)) 0 ≡ false → is_job t ≡ false
  job-more more = job-parts ∙ ap (λ (b : Bool). leb (length t) text_limit && six_lines t && b) more ∙ and-false (leb (length t) text_limit && six_lines t)
