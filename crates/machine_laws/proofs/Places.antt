-- One step at each of the guards' own instructions.
use Rattle.std.proofs.Common.{◌≡◌, ℕ, List, sym, subst}
use Rattle.machine_model.specs.Context.{IsContext}
use Rattle.machine_model.specs.Does.{does, Effect}
use Rattle.msp_encode.specs.declared.instr.Instr.{Instr}
use Rattle.machine_laws.specs.Places.{TakesAddress, AddsIndex, ComparesLow, JumpsIfLow, ComparesHigh, JumpsIfHigh, StoreFails, StoreRestores, ComparesLimit, JumpsIfRoom, GrowthFails, GrowthRestores, ComparesTop, JumpsIfFilled, PopFails, PopRestores, ComparesNewLow, JumpsIfNewLow, ComparesNewHigh, JumpsIfNewHigh, SpFails, SpRestores, Stores, Grows, Pops, SetsSp}
use Rattle.machine_laws.specs.Own.{Next, OwnLaw}
use Rattle.machine_model.proofs.Contexts.{words, as_words}
use Rattle.machine_laws.proofs.StoreGuard.{takes_address-on, adds_index-on, compares_low-on, jumps_if_low-on, compares_high-on, jumps_if_high-on, store_fails-on, store_restores-on}
use Rattle.machine_laws.proofs.StackGuards.{compares_limit-on, jumps_if_room-on, growth_fails-on, growth_restores-on, compares_top-on, jumps_if_filled-on, pop_fails-on, pop_restores-on, compares_new_low-on, jumps_if_new_low-on, compares_new_high-on, jumps_if_new_high-on, sp_fails-on, sp_restores-on}

-- a step from a context is one from its sixteen words
pub from_words : (N : Effect → Type 0) (m r : List ℕ) (i j : Instr) (n k : ℕ) → IsContext r → i ≡ j → n ≡ k → (IsContext (words r) → N (does m (words r) j k)) → N (does m r i n)
from_words N m r i j n k c e f h =
    let w = sym (as_words r c.words) in
    subst (λ (x : ℕ). N (does m r i x)) (sym f) (subst (λ (x : Instr). N (does m r x k)) (sym e)
    (subst (λ (q : List ℕ). N (does m q j k)) (sym w) (h (subst IsContext w c))))

pub own-leads : OwnLaw
own-leads TakesAddress g b kb m r i n gi bi li s at o = from_words (Next TakesAddress g b kb) m r i _ n _ s.context o.0 o.1 (λ k. takes_address-on g.from gi.load g b kb m r gi bi li s k at)
own-leads AddsIndex g b kb m r i n gi bi li s at o = from_words (Next AddsIndex g b kb) m r i _ n _ s.context o.0 o.1 (λ k. adds_index-on g b kb m r gi bi li s k at)
own-leads ComparesLow g b kb m r i n gi bi li s at o = from_words (Next ComparesLow g b kb) m r i _ n _ s.context o.0 o.1 (λ k. compares_low-on g b kb m r gi bi li s k at)
own-leads JumpsIfLow g b kb m r i n gi bi li s at o = from_words (Next JumpsIfLow g b kb) m r i _ n _ s.context o.0 o.1 (λ k. jumps_if_low-on g b kb m r gi bi li s k at)
own-leads ComparesHigh g b kb m r i n gi bi li s at o = from_words (Next ComparesHigh g b kb) m r i _ n _ s.context o.0 o.1 (λ k. compares_high-on g b kb m r gi bi li s k at)
own-leads JumpsIfHigh g b kb m r i n gi bi li s at o = from_words (Next JumpsIfHigh g b kb) m r i _ n _ s.context o.0 o.1 (λ k. jumps_if_high-on g b kb m r gi bi li s k at)
own-leads StoreFails g b kb m r i n gi bi li s at o = from_words (Next StoreFails g b kb) m r i _ n _ s.context o.0 o.1 (λ k. store_fails-on g b kb m r gi bi li s k at)
own-leads StoreRestores g b kb m r i n gi bi li s at o = from_words (Next StoreRestores g b kb) m r i _ n _ s.context o.0 o.1 (λ k. store_restores-on g b kb m r gi bi li s k at)
own-leads ComparesLimit g b kb m r i n gi bi li s at o = from_words (Next ComparesLimit g b kb) m r i _ n _ s.context o.0 o.1 (λ k. compares_limit-on g b kb m r gi bi li s k at)
own-leads JumpsIfRoom g b kb m r i n gi bi li s at o = from_words (Next JumpsIfRoom g b kb) m r i _ n _ s.context o.0 o.1 (λ k. jumps_if_room-on g b kb m r gi bi li s k at)
own-leads GrowthFails g b kb m r i n gi bi li s at o = from_words (Next GrowthFails g b kb) m r i _ n _ s.context o.0 o.1 (λ k. growth_fails-on g b kb m r gi bi li s k at)
own-leads GrowthRestores g b kb m r i n gi bi li s at o = from_words (Next GrowthRestores g b kb) m r i _ n _ s.context o.0 o.1 (λ k. growth_restores-on g b kb m r gi bi li s k at)
own-leads ComparesTop g b kb m r i n gi bi li s at o = from_words (Next ComparesTop g b kb) m r i _ n _ s.context o.0 o.1 (λ k. compares_top-on g b kb m r gi bi li s k at)
own-leads JumpsIfFilled g b kb m r i n gi bi li s at o = from_words (Next JumpsIfFilled g b kb) m r i _ n _ s.context o.0 o.1 (λ k. jumps_if_filled-on g b kb m r gi bi li s k at)
own-leads PopFails g b kb m r i n gi bi li s at o = from_words (Next PopFails g b kb) m r i _ n _ s.context o.0 o.1 (λ k. pop_fails-on g b kb m r gi bi li s k at)
own-leads PopRestores g b kb m r i n gi bi li s at o = from_words (Next PopRestores g b kb) m r i _ n _ s.context o.0 o.1 (λ k. pop_restores-on g b kb m r gi bi li s k at)
own-leads ComparesNewLow g b kb m r i n gi bi li s at o = from_words (Next ComparesNewLow g b kb) m r i _ n _ s.context o.0 o.1 (λ k. compares_new_low-on g b kb m r gi bi li s k at)
own-leads JumpsIfNewLow g b kb m r i n gi bi li s at o = from_words (Next JumpsIfNewLow g b kb) m r i _ n _ s.context o.0 o.1 (λ k. jumps_if_new_low-on g b kb m r gi bi li s k at)
own-leads ComparesNewHigh g b kb m r i n gi bi li s at o = from_words (Next ComparesNewHigh g b kb) m r i _ n _ s.context o.0 o.1 (λ k. compares_new_high-on g b kb m r gi bi li s k at)
own-leads JumpsIfNewHigh g b kb m r i n gi bi li s at o = from_words (Next JumpsIfNewHigh g b kb) m r i _ n _ s.context o.0 o.1 (λ k. jumps_if_new_high-on g b kb m r gi bi li s k at)
own-leads SpFails g b kb m r i n gi bi li s at o = from_words (Next SpFails g b kb) m r i _ n _ s.context o.0 o.1 (λ k. sp_fails-on g b kb m r gi bi li s k at)
own-leads SpRestores g b kb m r i n gi bi li s at o = from_words (Next SpRestores g b kb) m r i _ n _ s.context o.0 o.1 (λ k. sp_restores-on g b kb m r gi bi li s k at)
own-leads Stores g b kb m r i n gi bi li s at o = tt
own-leads Grows g b kb m r i n gi bi li s at o = tt
own-leads Pops g b kb m r i n gi bi li s at o = tt
own-leads SetsSp g b kb m r i n gi bi li s at o = tt
