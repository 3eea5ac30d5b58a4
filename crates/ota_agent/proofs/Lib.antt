mod Flags
