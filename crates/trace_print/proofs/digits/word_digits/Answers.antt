use Rattle.trace_print.proofs.Words.{eight_digits, ascii_text}
use Rattle.trace_print.proofs.digits.word_digits.Goals as goal

pub returns-clause-digits : goal.returns-clause-digits
returns-clause-digits c = let all = eight_digits c.args.word in cc

pub returns-clause-text : goal.returns-clause-text
returns-clause-text c =
    ascii_text _ _ _ _ _ _ _ _ c.hex_byte.ensures.ascii c.hex_byte-2.ensures.ascii
    c.hex_byte-3.ensures.ascii c.hex_byte-4.ensures.ascii c.hex_byte-5.ensures.ascii
    c.hex_byte-6.ensures.ascii c.hex_byte-7.ensures.ascii c.hex_byte-8.ensures.ascii
