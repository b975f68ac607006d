-- An output of lines, whose objects are written to another output.
use Rattle.std.specs.Prelude.{◌≡◌, ℕ, false, List, [], ◌∷◌, ◌++◌, Option, None}
use Rattle.osdp_tool_streams.specs.declared.fault.ToolFault.{ToolFault}
use Rattle.osdp_tool_streams.specs.declared.watch.Watched.{Watched}
use Rattle.osdp_tool_streams.specs.Watched.{has_failed, inner_of}
use Rattle.osdp_tool_objects.specs.Streams.{is_written, noted, taken_so}
use Rattle.osdp_tool_objects.specs.declared.stream.Objects.{Objects}

-- the other output
abbrev pub output_of : {W : Type 0} → Objects W → Watched W
output_of o = o.inner

-- why a write or a flush failed
abbrev pub fault_of : {W : Type 0} → Objects W → Option ToolFault
fault_of o = o.fault

-- what it held when it was noted
abbrev pub noted_start : {W : Type 0} → (W → Option (List ℕ)) → List (Watched W × Unit {0}) → Option (List ℕ)
noted_start contents [] = None
noted_start contents (first ∷ notes) = contents (inner_of first.0)

abbrev pub start_of : {W : Type 0} → (W → Option (List ℕ)) → Objects W → Option (List ℕ)
start_of contents o = noted_start contents o.start.items

-- nothing was written to it
pub record IsNew {W : Type 0} (contents : W → Option (List ℕ)) (o : Objects W) : Type 0 where
  pub fault : fault_of o ≡ None
  pub held : o.held.items ≡ []
  pub start : start_of contents o ≡ contents (inner_of (output_of o))
  pub taken : noted o.taken.items ≡ []
  pub lost : noted o.lost.items ≡ []
  pub well : has_failed (output_of o) ≡ false

-- what it holds as an output of lines
abbrev pub lines_taken : {W : Type 0} → (W → Option (List ℕ)) → Objects W → Option (List ℕ)
lines_taken contents o =
    taken_so (is_written (fault_of o) (has_failed (output_of o)) (start_of contents o) (contents (inner_of (output_of o))) o.held.items (noted o.taken.items) (noted o.lost.items))
    (start_of contents o) (noted o.taken.items ++ noted o.lost.items)
