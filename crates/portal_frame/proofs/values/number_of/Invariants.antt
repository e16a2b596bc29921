use Rattle.portal_frame.proofs.Base.{◌≡◌, ◌<◌, ◌^◌, take, true, digits_value, is_ascii_digit, list_all}
use Rattle.portal_frame.proofs.values.number_of.Given as goal

abbrev pub invariant-loop-digit : goal.invariant-loop-digit
invariant-loop-digit l = record {
  value_is : l.number ≡ digits_value 10 (take l.digit-index l.value);
  small : l.number < 10 ^ l.digit-index;
  digits : list_all is_ascii_digit (take l.digit-index l.value) ≡ true;
}
