-- What a loop over records has taken and put after so many turns.
use Rattle.std.proofs.Common.{◌≡◌, ℕ, ◌+◌, ◌<◌, List, [], ◌∷◌, ◌++◌, arith, length, Option, refl, sym, ap, ◌∙◌, subst, append-nil}
use Rattle.std.specs.List.{All, AllZip, concat}
use Rattle.std.specs.Io.KnownBytes.{Consumes, Appends, IsAtEnd}
use Rattle.std.proofs.KnownBytes.{Consumes-nil, Consumes-trans, Appends-nil, Appends-trans}
use Rattle.std.proofs.lemmas.List.Elements.{All-append, All-nil, All-cons, AllZip-push}
use Rattle.std.proofs.lemmas.List.Folds.{concat-append}
use lib.ListN.{length-append}
use Rattle.streams.specs.Records.{RecordsAnswered}

pub record Turned (answers : List ℕ → List ℕ → Type 0) (n turns : ℕ) (given left written after : Option (List ℕ)) : Type 0 where
  pub calls : List (List ℕ)
  pub outs : List (List ℕ)
  pub count : length calls ≡ turns
  pub whole : All (λ call. length call ≡ n) calls
  pub answered : AllZip answers calls outs
  pub taken : Consumes given left (concat calls)
  pub put : Appends written after (concat outs)

concat-push : (xs : List (List ℕ)) (x : List ℕ) → concat xs ++ x ≡ concat (xs ++ x ∷ [])
concat-push xs x = sym (concat-append xs (x ∷ []) ∙ ap (λ l. concat xs ++ l) (append-nil x))

module _ (answers : List ℕ → List ℕ → Type 0) (n : ℕ) where
  pub none_yet : (given written : Option (List ℕ)) → Turned answers n 0 given given written written
  none_yet given written = record { calls = []; outs = []; count = refl; whole = All-nil (λ l. length l ≡ n); answered = tt; taken = Consumes-nil given; put = Appends-nil written }

  pub one_more : (turns : ℕ) (a b c w v u : Option (List ℕ)) (call out : List ℕ) → Turned answers n turns a b w v → length call ≡ n → answers call out
      → Consumes b c call → Appends v u out → Turned answers n (turns + 1) a c w u
  one_more turns a b c w v u call out before long answer taken put = record {
    calls = before.calls ++ call ∷ [];
    outs = before.outs ++ out ∷ [];
    count = length-append before.calls (call ∷ []) ∙ ap (λ k. k + 1) before.count;
    whole = All-append (λ l. length l ≡ n) before.calls (call ∷ []) before.whole (All-cons (λ l. length l ≡ n) call [] long (All-nil (λ l. length l ≡ n)));
    answered = AllZip-push answers before.calls before.outs call out before.answered answer;
    taken = subst (Consumes a c) (concat-push before.calls call) (Consumes-trans a b c (concat before.calls) call before.taken taken);
    put = subst (Appends w u) (concat-push before.outs out) (Appends-trans w v u (concat before.outs) out before.put put);
  }

  pub at_end : (turns : ℕ) (a b c w v : Option (List ℕ)) (rest : List ℕ) → Turned answers n turns a b w v → Consumes b c rest → length rest < n → IsAtEnd c
      → RecordsAnswered answers n a c w v
  at_end turns a b c w v rest before taken short end = record {
    calls = before.calls;
    outs = before.outs;
    rest = rest;
    whole = before.whole;
    answered = before.answered;
    taken = Consumes-trans a b c (concat before.calls) rest before.taken taken;
    put = before.put;
    all = λ _. (short, end);
  }

  pub after_all : (turns : ℕ) (a b w v : Option (List ℕ)) → Turned answers n turns a b w v → turns ≡ 18446744073709551615 → RecordsAnswered answers n a b w v
  after_all turns a b w v before many = record {
    calls = before.calls;
    outs = before.outs;
    rest = [];
    whole = before.whole;
    answered = before.answered;
    taken = subst (Consumes a b) (sym (append-nil (concat before.calls))) before.taken;
    put = before.put;
    all = λ few. let same = before.count ∙ many in absurd (omega arith);
  }
