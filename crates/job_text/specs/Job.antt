-- A job: what it asks, and its text. Lines of key=value in the order size, blocks, ptr, cols, seeds, hops; size, seeds and hops
-- have 64 bits, the others 32; at most 16,384 bytes.
use Rattle.std.specs.Prelude.{Bool, ◌&&◌, List, [], ◌∷◌, ◌++◌, ℕ, eqb, leb, length}
use Rattle.std.specs.Prelude.{Option, Result, Ok, Err, is_ok}
use Rattle.std.specs.Bool.{then_some}
use Rattle.base.specs.Lists.{every}
use Rattle.text_writing.specs.Text.{decimal, numbers, line}
use Rattle.text_reading.specs.Reading.{told, is_number, number_of, is_list, list_of, is_line, value_of, from_line}
use Rattle.job_text.specs.declared.JobRead.{JobRead}

-- blocks are their component counts; ptr and cols are the matrix's
pub record Job : Type 0 where
  pub size : ℕ
  pub blocks : List ℕ
  pub ptr : List ℕ
  pub cols : List ℕ
  pub seeds : List ℕ
  pub hops : ℕ

-- ---- the keys, '=' included

-- size=
abbrev pub size_key : List ℕ
size_key = 115 ∷ 105 ∷ 122 ∷ 101 ∷ 61 ∷ []

-- blocks=
abbrev pub blocks_key : List ℕ
blocks_key = 98 ∷ 108 ∷ 111 ∷ 99 ∷ 107 ∷ 115 ∷ 61 ∷ []

-- ptr=
abbrev pub ptr_key : List ℕ
ptr_key = 112 ∷ 116 ∷ 114 ∷ 61 ∷ []

-- cols=
abbrev pub cols_key : List ℕ
cols_key = 99 ∷ 111 ∷ 108 ∷ 115 ∷ 61 ∷ []

-- seeds=
abbrev pub seeds_key : List ℕ
seeds_key = 115 ∷ 101 ∷ 101 ∷ 100 ∷ 115 ∷ 61 ∷ []

-- hops=
abbrev pub hops_key : List ℕ
hops_key = 104 ∷ 111 ∷ 112 ∷ 115 ∷ 61 ∷ []

-- ---- the text of a job

abbrev pub text_limit : ℕ
text_limit = 16384

-- the largest numbers of 64 and of 32 bits
abbrev pub most64 : ℕ
most64 = 18446744073709551615

abbrev pub most32 : ℕ
most32 = 4294967295

unfoldable pub text_of_job : Job → List ℕ
text_of_job j =
    line size_key (decimal j.size)
    ++ (line blocks_key (numbers j.blocks)
    ++ (line ptr_key (numbers j.ptr)
    ++ (line cols_key (numbers j.cols)
    ++ (line seeds_key (numbers j.seeds)
    ++ line hops_key (decimal j.hops)))))

abbrev pub at_most : ℕ → ℕ → Bool
at_most most x = leb x most

-- its numbers have 64 or 32 bits
unfoldable pub fits : Job → Bool
fits j =
    leb j.size most64
    && every (at_most most32) j.blocks
    && every (at_most most32) j.ptr
    && every (at_most most32) j.cols
    && every (at_most most64) j.seeds
    && leb j.hops most64

-- ---- what a text asks

-- line k of the text has the key, and its value is a number
unfoldable pub number_at : ℕ → List ℕ → ℕ → List ℕ → Bool
number_at k key most t = is_line key (from_line k t) && is_number most (value_of key (from_line k t))

-- or a list
unfoldable pub list_found_at : ℕ → List ℕ → ℕ → List ℕ → Bool
list_found_at k key most t = is_line key (from_line k t) && is_list most (value_of key (from_line k t))

-- the text is a job's: at most 16,384 bytes, the six lines in order, nothing behind them
unfoldable pub is_job : List ℕ → Bool
is_job t =
    leb (length t) text_limit
    && number_at 0 size_key most64 t
    && list_found_at 1 blocks_key most32 t
    && list_found_at 2 ptr_key most32 t
    && list_found_at 3 cols_key most32 t
    && list_found_at 4 seeds_key most64 t
    && number_at 5 hops_key most64 t
    && eqb (length (from_line 6 t)) 0

-- which job
unfoldable pub job_of : List ℕ → Job
job_of t =
    record {
      size = number_of most64 (value_of size_key (from_line 0 t));
      blocks = list_of most32 (value_of blocks_key (from_line 1 t));
      ptr = list_of most32 (value_of ptr_key (from_line 2 t));
      cols = list_of most32 (value_of cols_key (from_line 3 t));
      seeds = list_of most64 (value_of seeds_key (from_line 4 t));
      hops = number_of most64 (value_of hops_key (from_line 5 t));
    }

-- its numbers, and how long its lists are
abbrev pub figures_of : Job → JobRead
figures_of j = record { size = j.size; blocks = length j.blocks; pointers = length j.ptr; columns = length j.cols; seeds = length j.seeds; hops = j.hops }

-- the figures of the job, if the text is one
abbrev pub job_found : List ℕ → Option JobRead
job_found t = then_some (is_job t) (figures_of (job_of t))

-- the figure, of what was read as one or not
abbrev pub figure_of : {A : Type 0} → Result A A → A
figure_of (Ok x) = x
figure_of (Err x) = x

-- the figures, and whether each was read as one
abbrev pub figures_read : Result ℕ ℕ → Result ℕ ℕ → Result ℕ ℕ → Result ℕ ℕ → Result ℕ ℕ → Result ℕ ℕ → Result JobRead JobRead
figures_read size blocks pointers columns seeds hops =
    told (is_ok size && is_ok blocks && is_ok pointers && is_ok columns && is_ok seeds && is_ok hops)
    (record { size = figure_of size; blocks = figure_of blocks; pointers = figure_of pointers; columns = figure_of columns; seeds = figure_of seeds; hops = figure_of hops })
