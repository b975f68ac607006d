-- An input whose bytes are known, as far as it was read.
use Rattle.std.proofs.Common.{◌≡◌, ◌+◌, ℕ, List, [], ◌∷◌, ◌++◌, Option, Some, None, length, take, inl, inr, refl, sym, ap, ◌∙◌, arith, append-nil, append_assoc, length-append}
use Rattle.std.proofs.Math.Seq.{take-append_seam}
use Rattle.std.specs.Io.KnownBytes.{Consumes, IsAtEnd}
use Rattle.osdp_tool_streams.specs.declared.fault.ToolFault.TheVariants.{NotHex, TooLong, BadWords, BadStep, HoldsPacket, NotQuiet, ReadFailed, WriteFailed, NoMemory}
use Rattle.osdp_tool_captures.specs.Laws.{IsAsFarAsItGoes, ReadsAsFarAsItGoes}
use Rattle.osdp_tool_captures.specs.Whole.{ReadWhole}

module _ (limit : ℕ) (all bytes : List ℕ) where
  -- what was taken stands in front
  left_of : (after : Option (List ℕ)) → Consumes (Some all) after bytes → (rest : List ℕ) × (after ≡ Some rest) × (all ≡ bytes ++ rest)
  left_of None taken = absurd taken
  left_of (Some rest) taken = (rest, refl, taken)

  front_of : (rest : List ℕ) → all ≡ bytes ++ rest → bytes ≡ take (length bytes) all
  front_of rest taken = sym (ap (take (length bytes)) taken ∙ take-append_seam bytes rest)

  all_of : (after : Option (List ℕ)) → Consumes (Some all) after bytes → IsAtEnd after → all ≡ bytes
  all_of None taken end = absurd taken
  all_of (Some rest) taken end = taken ∙ ap (λ l. bytes ++ l) end ∙ append-nil bytes

  at_end : (after : Option (List ℕ)) → ReadWhole limit (Some all) after bytes None → IsAsFarAsItGoes limit all bytes None
  at_end after read =
      let same = all_of after read.0 read.1 in
      let left = left_of after read.0 in
      let within = read.2 in
      record {
        whole = λ is. (omega (arith, ap length same), sym same);
        long = λ is. cc is;
        front = front_of left.0 left.2;
        within = within;
        fault_is = inl refl;
      }

  past : (rest : List ℕ) (byte : ℕ) → length bytes ≡ limit → all ≡ (bytes ++ byte ∷ []) ++ rest → IsAsFarAsItGoes limit all bytes (Some TooLong)
  past rest byte counts taken =
      let parts : all ≡ bytes ++ byte ∷ rest = taken ∙ append_assoc bytes (byte ∷ []) rest in
      let lengths : length all ≡ length bytes + length (byte ∷ rest) = ap length parts ∙ length-append bytes (byte ∷ rest) in
      record {
        whole = λ is. cc is;
        long = λ is. (omega (arith, lengths, counts), counts);
        front = front_of (byte ∷ rest) parts;
        within = omega (arith, counts);
        fault_is = inr (inl refl);
      }

  past_limit : (after : Option (List ℕ)) → ReadWhole limit (Some all) after bytes (Some TooLong) → IsAsFarAsItGoes limit all bytes (Some TooLong)
  past_limit None read = absurd read.1.1
  past_limit (Some rest) read = past rest read.1.0 read.0 read.1.1

  at_failure : (after : Option (List ℕ)) → ReadWhole limit (Some all) after bytes (Some ReadFailed) → IsAsFarAsItGoes limit all bytes (Some ReadFailed)
  at_failure after read =
      let left = left_of after read.0 in
      record {
        whole = λ is. cc is;
        long = λ is. cc is;
        front = front_of left.0 left.2;
        within = read.1;
        fault_is = inr (inr refl);
      }

pub reads_as_far : ReadsAsFarAsItGoes
reads_as_far limit all bytes after None read = at_end limit all bytes after read
reads_as_far limit all bytes after (Some TooLong) read = past_limit limit all bytes after read
reads_as_far limit all bytes after (Some ReadFailed) read = at_failure limit all bytes after read
reads_as_far limit all bytes after (Some (NotHex line)) read = absurd read
reads_as_far limit all bytes after (Some BadWords) read = absurd read
reads_as_far limit all bytes after (Some (BadStep line)) read = absurd read
reads_as_far limit all bytes after (Some (HoldsPacket step)) read = absurd read
reads_as_far limit all bytes after (Some (NotQuiet step)) read = absurd read
reads_as_far limit all bytes after (Some WriteFailed) read = absurd read
reads_as_far limit all bytes after (Some NoMemory) read = absurd read
