-- What is owned at a pointer without a type.
use base.Fml.{Fml, ftrue}
use denote.RattleType.{RattleType}
use denote.RawPtr.{Ptr}
use Rattle.std.specs.declared.alloc.Global.{Global}
use Rattle.std.specs.declared.option.Option.{Option}
use Rattle.std.specs.declared.option.Option.TheVariants.{None, Some}
use Rattle.std.specs.contracts.impls.GlobalAllocator.TheImpl.{ghosts}
use Rattle.std_alloc.specs.Box.Ownership.{box_owns}
use base.Fml.{fex}

-- a value of the type R at the pointer, and the right to free its block of the heap
abbrev pub heap_owns : (R : RattleType) → Ptr → R.Denot → Fml
heap_owns R p x = fex Global (λ heap. box_owns (ghosts.dealloc_token heap) R p x)

-- nothing, or that
abbrev pub slot_owns : (R : RattleType) → Ptr → Option R.Denot → Fml
slot_owns R p None = ftrue
slot_owns R p (Some x) = heap_owns R p x
