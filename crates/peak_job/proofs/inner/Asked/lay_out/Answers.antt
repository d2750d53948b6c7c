-- `peak_job::inner::Asked::lay_out` meets its contract. Assumes nothing.
use mathlib.Core.Path.{◌≡◌, ap, ap₂, ◌∙◌}
use Rattle.base.specs.Checks.{Check}
use mathlib.Core.List.{List}
use Prim.Native.Nat.{ℕ, suc, ◌+◌}
use native.Mathlib.Omega.{arith}
use lib.Ieee.{of_bits}
use lib.ListN.{length, take, replicate, length-replicate}
use Rattle.base.specs.Checks.{◌then◌}
use Rattle.base.proofs.Lists.{over-own, take-replicate, take-list_from}
use Rattle.csr32.specs.Matrix.{matrix_check}
use Rattle.dof_layout.specs.Layout.{offsets_of}
use Rattle.dof_layout.specs.Answers.{square_check}
use Rattle.dof_layout.proofs.Layouts.{offsets-length}
use Rattle.pattern.specs.Pattern.{one}
use Rattle.job_text.specs.Answer.{text_answer, text_left}
use Rattle.peak_job.specs.Answer.{kinds_of, ids_of, fields_of, values_of, region_text, text_of}
use Rattle.peak_job.specs.Steps.{laid_check}
use Rattle.peak_job.proofs.inner.Asked.lay_out.Goals as goal

pub write_offsets-requires : goal.write_offsets-requires
write_offsets-requires c = (c.args.self.few.1, omega (arith, c.args.self.few.1, length-replicate {A = ℕ} 1024 0))

pub returns : goal.returns
unfolding of_bits
returns c =
    let n = c.args.self.size in
    let ptr = c.args.self.ptr.now in
    let cols = c.args.self.cols.now in
    let blocks = c.args.self.blocks.now in
    let B : ℕ = length blocks in
    let last : B + 1 ≡ suc B = omega arith in
    let v : take (length cols) (replicate 1024 one) ≡ values_of cols = take-replicate (length cols) 1024 one (omega (arith, c.args.self.few.2)) in
    let k : take B (replicate {A = ℕ} 1024 1) ≡ kinds_of blocks = take-replicate {A = ℕ} B 1024 1 (omega (arith, c.args.self.few.1)) in
    let f : take B (replicate {A = ℕ} 1024 0) ≡ fields_of blocks = take-replicate {A = ℕ} B 1024 0 (omega (arith, c.args.self.few.1)) in
    let i : take B c.number.new.ids ≡ ids_of blocks =
    ap (take B) c.number.ensures ∙ take-list_from (λ (b : ℕ). b) B 1024 0 (omega (arith, c.args.self.few.1)) in
    let o : take (B + 1) c.write_offsets.new.offsets ≡ offsets_of blocks =
    ap₂ (λ (m : ℕ) (l : List ℕ). take m l) last c.write_offsets.ensures ∙ over-own (offsets_of blocks) _ (suc B) (offsets-length blocks) in
    let same : (matrix_check n n ptr cols (take (length cols) (replicate 1024 one)) then square_check (take B (replicate {A = ℕ} 1024 1)) (take B c.number.new.ids) (take B (replicate {A = ℕ} 1024 0)) blocks (take (B + 1) c.write_offsets.new.offsets) n n) ≡ laid_check n blocks ptr cols =
    λ j. matrix_check n n ptr cols (v j) then square_check (k j) (i j) (f j) blocks (o j) n n in
    let t : List ℕ = region_text n ptr cols blocks c.args.words.now c.args.self.hops in record {
      value = c.cut.ensures.value ∙ ap (λ (x : Check). text_answer (text_of x t) c.args.out.now) same;
      out_after = c.cut.ensures.out_after ∙ ap (λ (x : Check). text_left (text_of x t) c.args.out.now) same;
    }
