use Rattle.nova_word.proofs.numbers.+octal_width.Given as goal

-- proposed from what the function passes where it calls itself
abbrev pub decreases-octal_width : goal.decreases-octal_width
decreases-octal_width l = l.n
