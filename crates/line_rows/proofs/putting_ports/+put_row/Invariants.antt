use Rattle.line_rows.proofs.putting_ports.+put_row.Given as goal

abbrev pub decreases-put_row : goal.decreases-put_row
decreases-put_row g l = l.count
