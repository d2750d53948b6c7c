-- Demand 3: the claim holds of every list of growths. Assumes nothing.
use mathlib.Core.Path.{◌≡◌, ap, ◌∙◌}
use Rattle.std.specs.Prelude.{Ok}
use mathlib.Core.List.{List}
use Rattle.growths.specs.Runs.{Growth, Ground, check_of, region_of}
use Rattle.claims.specs.Demand.{CutSystem, Accepts, Kind, extracted, planned, gathered_from, held, Claim}
use Rattle.growths.proofs.Runs.{same_region, same_frontier}
use Rattle.claims.proofs.Grounds.{solid, seeds-accepted}
use Rattle.claims.proofs.Complete.{complete}

pub demand-3 : (S : CutSystem) → Accepts S → (k : Ground) → Kind S k → (cs : List Growth) → Claim S k cs
demand-3 S a k kind cs =
    let s = solid S a k kind in
    record {
      room = s.room (held S k cs).seeds (seeds-accepted S a k kind cs);
      as_one = λ some d by_total fits.
          let takes : check_of k S.seeds d ≡ (Ok tt) = s.room S.seeds a.seeds d ∙ fits in
          let region : (held S k cs).seeds ≡ region_of k S.seeds d = same_region k s.whole s.few S.seeds cs d some by_total takes in
          record {
            accepted = takes;
            region = region;
            frontier = same_frontier k s.whole s.few S.seeds cs d some by_total takes;
            pattern = λ nodes ptr cols. ap (λ (w : List _). extracted S w nodes ptr cols) region;
            plan = λ nodes ptr cols source_ptr sources. ap (λ (w : List _). planned S w nodes ptr cols source_ptr sources) region;
            gather = λ source_ptr sources values out. ap (λ (w : List _). gathered_from S w source_ptr sources values out) region;
          };
      complete = complete S a k kind cs;
    }
