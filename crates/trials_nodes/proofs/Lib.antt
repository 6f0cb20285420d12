mod Packets
