-- What a caller in C is answered of a span: document 02's number and values, in a struct. Definitions only.
use Rattle.span.specs.Spans.{SpanValues}
use Rattle.icotable.specs.declared.spans.SpannedAnswer.{SpannedAnswer}

-- the number and the values that the struct holds; where the call is refused all others are 0 (S24.1)
unfoldable pub spanned_in : SpannedAnswer → SpanValues
spanned_in a = record { number = a.number; first = a.first; last = a.last; smallest = a.smallest; largest = a.largest; scalar_nans = a.scalar_nans }
