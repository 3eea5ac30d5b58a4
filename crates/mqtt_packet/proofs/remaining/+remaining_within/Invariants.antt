use Rattle.mqtt_packet.proofs.remaining.+remaining_within.Given as goal

-- proposed from what the function passes where it calls itself
abbrev pub decreases-remaining_within : goal.decreases-remaining_within
decreases-remaining_within l = l.most
