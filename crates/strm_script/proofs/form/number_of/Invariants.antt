-- The bytes so far are digits, and their value is not above the greatest number.
use Rattle.std.proofs.Common.{◌≡◌, ◌≤◌, true, take}
use Rattle.strm_script.specs.Form.{are_digits, value_of}
use Rattle.strm_script.proofs.form.number_of.Given as goal

abbrev pub invariant-loop-byte : goal.invariant-loop-byte
invariant-loop-byte l = record {
  digits : are_digits (take l.byte-index l.word) ≡ true;
  value : l.value ≡ value_of (take l.byte-index l.word);
  small : l.value ≤ l.most;
}
