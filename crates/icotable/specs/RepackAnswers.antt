-- What a caller in C is answered of a repacking, as Answers.antt has it of the other operations. Definitions only.
use Rattle.repack.specs.Repack.{RepackedValues}
use Rattle.icotable.specs.declared.repacks.RepackAnswer.{RepackAnswer}

unfoldable pub repacked_in : RepackAnswer → RepackedValues
repacked_in a = record { number = a.number; length = a.length; moved = a.moved }
